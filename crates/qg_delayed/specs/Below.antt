-- What a book tells of an address in one look-up (this project's own).
use Rattle.std.specs.Prelude.{⊤, ℕ, ◌+◌, ◌<◌, List, [], ◌∷◌, Option, Some, None}
use Rattle.qg_refs.specs.declared.counted.Counted.{Counted}
use Rattle.qg_refs.specs.declared.kept.Kept.{Kept}
use Rattle.qg_delayed.specs.declared.head.Head.{Head}

-- how often references are there, together
abbrev pub total_of : List Counted → ℕ
total_of [] = 0
total_of (entry ∷ entries) = entry.count + total_of entries

-- what is known, the full mark and how often all references are there
abbrev pub head_in : Option Kept → Option Head
head_in None = None
head_in (Some kept) = Some (record { what = kept.what; full = kept.full; total = total_of kept.references })

-- what is there has a reference
abbrev pub HasTotal : Option Head → Type 0
HasTotal None = ⊤
HasTotal (Some head) = 0 < head.total
