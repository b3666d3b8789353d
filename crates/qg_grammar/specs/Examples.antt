-- Lines and replies that were written out by hand.
use Rattle.std.specs.Prelude.{◌≡◌, ◌+◌, ◌*◌, ◌^◌, false, [], ◌∷◌, ◌++◌, codes, Some, None, refl}
use Rattle.std.specs.Fmt.{digits}
use Rattle.qg_num.specs.declared.command.Command.TheVariants.{Write, Snap, Limit, Ls}
use Rattle.qg_num.specs.declared.answer.Answer.TheVariants.{Commit, Shown, File, Owners, Refused}
use Rattle.qg_num.specs.declared.counters.Which.TheVariants.{Rfer, Excl}
use Rattle.qg_num.specs.declared.rule.Rule.TheVariants as rule
use Rattle.qg_num.specs.declared.refusal.Refusal.TheVariants.{Quota, NoNodes}
use Rattle.qg_grammar.specs.ScriptText.{script_lines, command_text, is_in_grammar}
use Rattle.qg_grammar.specs.FailureText.{rule_text, broken_text, differs_text}
use Rattle.qg_grammar.specs.ReplyText.{reply_text, refusal_text, row_text, piece_text}

-- an empty line is a line, and so is what is behind the last newline
lines_of_a_script : script_lines (97 ∷ 10 ∷ 10 ∷ 98 ∷ []) ≡ (97 ∷ []) ∷ [] ∷ (98 ∷ []) ∷ []
lines_of_a_script = refl

nothing_behind_the_last_newline : script_lines (97 ∷ 10 ∷ []) ≡ (97 ∷ []) ∷ []
nothing_behind_the_last_newline = refl

write_line : command_text (Write 5 257 0 8192) ≡ codes "write 5 257 0 8192"
unfolding command_text digits
write_line = refl

snap_line : command_text (Snap 5 []) ≡ codes "snap 5"
unfolding command_text digits
snap_line = refl

inherit_line : command_text (Snap 5 ((2 ^ 48 + 1) ∷ (2 ^ 48 + 10) ∷ [])) ≡ codes "snap 5 inherit 1/1 1/10"
unfolding command_text digits
inherit_line = refl

limit_line : command_text (Limit 5 Rfer (Some 36864)) ≡ codes "limit rfer 0/5 36864"
unfolding command_text digits
limit_line = refl

no_limit_line : command_text (Limit (2 * 2 ^ 48 + 1) Excl None) ≡ codes "limit excl 2/1 none"
unfolding command_text digits
no_limit_line = refl

least_file_number : is_in_grammar (Ls 5 256) ≡ false
unfolding is_in_grammar
least_file_number = refl

greatest_subvolume_number : is_in_grammar (Ls (2 ^ 48) 257) ≡ false
unfolding is_in_grammar
greatest_subvolume_number = refl

commit_reply : reply_text (Commit 2) ≡ codes "ok commit 2" ++ 10 ∷ []
unfolding reply_text digits
commit_reply = refl

show_reply :
    reply_text (Shown (record {
      group = 5;
      counters = record { rfer = 24576; excl = 16384 };
      max_rfer = Some 50000;
      max_excl = None;
    } ∷ []))
    ≡ codes "0/5 24576 16384 50000 none" ++ 10 ∷ codes "ok" ++ 10 ∷ []
unfolding reply_text row_text digits
show_reply = refl

ls_reply :
    reply_text (File 4096 (record {
      position = 0;
      len = 4096;
      extent = 67174400;
      offset = 4096;
      stamp = 2;
      extent_bytes = 8192;
    } ∷ []))
    ≡ codes "0 4096 67174400 4096" ++ 10 ∷ codes "ok file 4096" ++ 10 ∷ []
unfolding reply_text piece_text digits
ls_reply = refl

owners_reply : reply_text (Owners (5 ∷ 256 ∷ [])) ≡ codes "ok owners 5 256" ++ 10 ∷ []
unfolding reply_text digits
owners_reply = refl

no_owners_reply : reply_text (Owners []) ≡ codes "ok owners" ++ 10 ∷ []
unfolding reply_text digits
no_owners_reply = refl

quota_reply : reply_text (Refused (Quota (2 ^ 48 + 1) Excl)) ≡ codes "no quota 1/1 excl" ++ 10 ∷ []
unfolding reply_text refusal_text digits
quota_reply = refl

need_reply : reply_text (Refused (NoNodes 60 228)) ≡ codes "no nodes 60 228" ++ 10 ∷ []
unfolding reply_text refusal_text digits
need_reply = refl

broken_line : broken_text rule.Super 65536 ≡ codes "broken super 65536" ++ 10 ∷ []
unfolding rule_text digits
broken_line = refl

differs_line : differs_text 5 Rfer 0 16384 ≡ codes "differs 0/5 rfer 0 16384" ++ 10 ∷ []
unfolding digits
differs_line = refl
