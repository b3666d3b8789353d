-- The text of each answer (this project's own). A reply is its lines, each with its newline; its last line begins with
-- `ok` or `no`, and those before it with a digit.
use Rattle.std.specs.Prelude.{ℕ, List, [], ◌∷◌, ◌++◌, codes}
use Rattle.std.specs.List.{flat_map}
use Rattle.std.specs.Fmt.{decimal}
use Rattle.qg_num.specs.declared.answer.Answer.{Answer}
use Rattle.qg_num.specs.declared.answer.Answer.TheVariants.{Done, Commit, Sub, Extent, Shown, File, Owners, Refused}
use Rattle.qg_num.specs.declared.answer.Row.{Row}
use Rattle.qg_num.specs.declared.piece.Piece.{Piece}
use Rattle.qg_num.specs.declared.refusal.Refusal.{Refusal}
use Rattle.qg_num.specs.declared.refusal.Refusal.TheVariants as refusal
use Rattle.qg_grammar.specs.ScriptText.{then_number, then_word, group_text, then_group, which_text, maximum_text}

-- a line with its newline
abbrev pub line : List ℕ → List ℕ
line text = text ++ 10 ∷ []

-- the reply to a line that is no command's
abbrev pub no_line : List ℕ
no_line = line (codes "no line")

-- why a command is refused
unfoldable pub refusal_text : Refusal → List ℕ
refusal_text refusal.NoSub = codes "no sub"
refusal_text refusal.NoFile = codes "no file"
refusal_text refusal.Align = codes "no align"
refusal_text refusal.Far = codes "no far"
refusal_text refusal.Source = codes "no source"
refusal_text refusal.Overlap = codes "no overlap"
refusal_text (refusal.Quota group which) = codes "no quota" ++ then_group group ++ then_word (which_text which)
refusal_text refusal.NoRun = codes "no run"
refusal_text (refusal.NoNodes free need) = codes "no nodes" ++ then_number free ++ then_number need
refusal_text refusal.NoQuota = codes "no off"
refusal_text refusal.QuotaOn = codes "no on"
refusal_text refusal.NoGroup = codes "no group"
refusal_text refusal.GroupThere = codes "no there"
refusal_text refusal.Level = codes "no level"
refusal_text refusal.Related = codes "no related"
refusal_text refusal.NotRelated = codes "no unrelated"
refusal_text refusal.Busy = codes "no busy"
refusal_text refusal.TopLevel = codes "no top"
refusal_text refusal.TooMany = codes "no many"
refusal_text refusal.NoGeneration = codes "no generation"

-- a group, its two counters and its two limits
unfoldable pub row_text : Row → List ℕ
row_text row =
    group_text row.group ++ then_number row.counters.rfer ++ then_number row.counters.excl
    ++ then_word (maximum_text row.max_rfer) ++ then_word (maximum_text row.max_excl)

-- a piece's position and length, the address of its extent, and its offset there
unfoldable pub piece_text : Piece → List ℕ
piece_text piece = decimal piece.position ++ then_number piece.len ++ then_number piece.extent
    ++ then_number piece.offset

-- the text of a reply: its lines, each with a newline
unfoldable pub reply_text : Answer → List ℕ
reply_text Done = line (codes "ok")
reply_text (Commit generation) = line (codes "ok commit" ++ then_number generation)
reply_text (Sub sub) = line (codes "ok sub" ++ then_number sub)
reply_text (Extent address) = line (codes "ok extent" ++ then_number address)
reply_text (Shown rows) = flat_map (λ row. line (row_text row)) rows ++ line (codes "ok")
reply_text (File size pieces) = flat_map (λ piece. line (piece_text piece)) pieces
    ++ line (codes "ok file" ++ then_number size)
reply_text (Owners owners) = line (codes "ok owners" ++ flat_map then_number owners)
reply_text (Refused why) = line (refusal_text why)
