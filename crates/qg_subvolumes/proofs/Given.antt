-- References that are given to what others refer to.
use Rattle.std.proofs.Common.{◌≡◌, [], ◌∷◌, Some, sym, ap, subst, ◌∙◌}
use Rattle.std.specs.Prelude.{Err, IsErrAnd, Ok, Option, Result, unwrap_or}
use Rattle.qg_num.specs.declared.fault.BlockFault.{BlockFault}
use Rattle.qg_blocks.specs.NodesFound.{BreaksNone}
use Rattle.qg_node_alloc.specs.Tellings.{Telling}
use Rattle.qg_image.specs.Owed.{Owing}
use Rattle.qg_refs.specs.declared.kept.What.{What}
use Rattle.qg_refs.specs.Book.{Adds, Book, what_in}
use Rattle.qg_tree_backrefs.specs.declared.tree_refs.TreeRefs.{TreeRefs}
use Rattle.qg_tree_backrefs.specs.Exchange.{Gives}
use Rattle.qg_tree_backrefs.specs.Following.{Follows, Step}
use Rattle.qg_tree_backrefs.proofs.Gains.{Gives-one}

-- one is, whatever is told of what is known already
pub Gives-known : (old new : Book) (owing : Owing) (what other : What) → what_in (old owing.address) ≡ Some what
    → Adds old new owing.address other owing.reference → Gives old new (owing ∷ [])
Gives-known old new owing what other there adds =
    Gives-one old new owing what there (record {
      count = adds.count;
      known = adds.known ∙ ap (λ (known : Option What). Some (unwrap_or known other)) there
          ∙ sym (ap (λ (known : Option What). Some (unwrap_or known what)) there);
      full = adds.full;
      elsewhere = adds.elsewhere;
    })

-- ---- an answer that is handed on

pub handed : {A : Type 0} (result : Result A BlockFault) (fault : BlockFault) → IsErrAnd result (λ given. given ≡ fault)
    → result ≡ Err fault
handed (Ok x) fault is = absurd is
handed (Err given) fault is = ap (λ (f : BlockFault). Err f) is

pub unbroken-handed : {A : Type 0} (result : Result A BlockFault) (fault : BlockFault)
    → IsErrAnd result (λ given. given ≡ fault) → BreaksNone {A = A} (Err fault) → BreaksNone result
unbroken-handed {A} result fault is none =
    subst (λ (r : Result A BlockFault). BreaksNone r) (sym (handed result fault is)) none

-- ---- one telling

pub step-one : (before after : TreeRefs) (telling : Telling) → Follows before (telling ∷ []) after
    → Step before telling after
unfolding Follows
step-one before after telling follows =
    subst (λ (book : TreeRefs). Step before telling book) (sym follows.2) follows.1
