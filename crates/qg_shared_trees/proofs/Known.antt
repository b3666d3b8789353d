-- A book of which the same is known as before stays settled.
use Rattle.std.proofs.Common.{◌≡◌, ℕ, ◌<◌, List, length, Option, Some, None, refl, sym, ap, ◌∙◌, inr}
use Rattle.std.specs.Prelude.{is_some, nat_lt}
use Rattle.std.proofs.lemmas.Bool.{lt-ltb}
use Rattle.qg_device.specs.History.{History}
use Rattle.qg_tree_backrefs.specs.Types.{Ground}
use Rattle.qg_refs.specs.declared.kept.What.{What}
use Rattle.qg_refs.specs.declared.kept.Kept.{Kept}
use Rattle.qg_refs.specs.Book.{Book, IsBook, references_in, what_in}
use Rattle.qg_extents.specs.Table.{book_of}
use Rattle.qg_tree_backrefs.specs.declared.tree_refs.TreeRefs.{TreeRefs}
use Rattle.qg_tree_backrefs.specs.Following.{references_to}
use Rattle.qg_tree_backrefs.specs.Settled.{IsSettled}
use Rattle.qg_tree_backrefs.proofs.Settling.{IsSettled-each}

kept_known : (kept : Option Kept) → ((some : Kept) → kept ≡ Some some → 0 < length some.references)
    → nat_lt 0 (length (references_in kept)) ≡ is_some (what_in kept)
kept_known None some = refl
kept_known (Some kept) some = lt-ltb 0 (length kept.references) (some kept refl)

-- there are references exactly where something is known
pub referred-known : (book : Book) → IsBook book → (at : ℕ)
    → nat_lt 0 (references_to book at) ≡ is_some (what_in (book at))
referred-known book is at = kept_known (book at) (is.some at)

pub Settled-known : (before after : TreeRefs) (land : Ground) (history : History)
    → IsBook (book_of before.refs) → IsBook (book_of after.refs) → after.nodesize ≡ before.nodesize
    → after.next ≡ before.next
    → ((at : ℕ) → what_in (book_of after.refs at) ≡ what_in (book_of before.refs at))
    → IsSettled before land history → IsSettled after land history
Settled-known before after land history first last nodesize next known settled =
    IsSettled-each before after land land history settled nodesize next refl refl refl (λ q. inr (inr (record {
      slot = refl;
      referred = referred-known (book_of after.refs) last q ∙ ap (λ (what : Option What). is_some what) (known q)
          ∙ sym (referred-known (book_of before.refs) first q);
      known = known q;
      fresh = λ node there. (node, there, refl);
      still = λ some. some;
    })))
