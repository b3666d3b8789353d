-- What one telling makes of a subvolume's book, and a list of them.
use Rattle.std.proofs.Common.{◌≡◌, ℕ, List, [], ◌∷◌, ◌++◌, Option, Some, None, refl, sym, ap, subst, ◌∙◌}
use Rattle.std.specs.Option.{option_or}
use Rattle.qg_node.specs.declared.node.Node.{Node}
use Rattle.qg_image.specs.Owed.{Owing}
use Rattle.qg_node_alloc.specs.Tellings.{Telling}
use Rattle.qg_node_alloc.specs.Tellings.Telling.{Copied, Made, Left}
use Rattle.qg_refs.specs.declared.kept.Kept.{Kept}
use Rattle.qg_weighed.specs.Table.{book_of}
use Rattle.qg_backref_rule.specs.declared.owing.Owing.{Owing as Listed}
use Rattle.qg_backref_rule.specs.OwedLists.{owings_told}
use Rattle.qg_tree_backrefs.specs.declared.coming.Coming.{Coming}
use Rattle.qg_tree_backrefs.specs.declared.tree_refs.TreeRefs.{TreeRefs}
use Rattle.qg_tree_backrefs.specs.Exchange.{CanExchange, Exchange, Exchanges}
use Rattle.qg_tree_backrefs.specs.Following.{Follows, KeepsLevel, Step, coming_of, exchange_by_copy}
use Rattle.qg_tree_backrefs.specs.Following.{exchange_by_leaving}
use Rattle.qg_tree_backrefs.specs.Following.{exchange_of}

-- ---- one telling

-- whether a telling is proper hangs on no level
proper-level : (before : TreeRefs) (telling : Telling) (level : ℕ)
    → CanExchange (book_of before.refs) (exchange_of before telling) (coming_of before 0 telling)
    → CanExchange (book_of before.refs) (exchange_of before telling) (coming_of before level telling)
proper-level before (Copied node copy) level can = can
proper-level before (Made address) level can = record { there = can.there; room = can.room; first = can.first }
proper-level before (Left node) level can = can

pub Step-whole : (before after : TreeRefs) (telling : Telling) (refs : List (ℕ × Kept)) (level : ℕ)
    (misfit : Option ℕ) (exchange : Exchange) (coming : Option Coming)
    → exchange ≡ exchange_of before telling → coming ≡ coming_of before level telling
    → (misfit ≡ None → Exchanges (book_of before.refs) (book_of refs) exchange coming)
    → (CanExchange (book_of before.refs) exchange coming → KeepsLevel (book_of before.refs) telling → misfit ≡ None)
    → after ≡ record before { refs = refs; misfit = option_or before.misfit misfit }
    → (step : Step before telling after) × (step.level ≡ level) × (step.misfit ≡ misfit)
Step-whole before after telling refs level misfit exchange coming is comes done can noted =
    let now : after.refs ≡ refs = ap (λ (book : TreeRefs). book.refs) noted in
    let step : Step before telling after = record {
      level = level;
      misfit = misfit;
      done = λ none.
          subst (λ (table : List (ℕ × Kept)). Exchanges (book_of before.refs) (book_of table)
          (exchange_of before telling) (coming_of before level telling)) (sym now)
          (subst (λ (change : Exchange). Exchanges (book_of before.refs) (book_of refs) change
          (coming_of before level telling)) is
          (subst (λ (some : Option Coming). Exchanges (book_of before.refs) (book_of refs) exchange some) comes
          (done none)));
      proper = λ may.
          can (subst (λ (change : Exchange). CanExchange (book_of before.refs) change coming) (sym is)
          (subst (λ (some : Option Coming). CanExchange (book_of before.refs) (exchange_of before telling) some)
          (sym comes) (proper-level before telling level may.can))) may.level;
      noted =
          let first = option_or before.misfit misfit in
          noted ∙ ap (λ (table : List (ℕ × Kept)). record before { refs = table; misfit = first }) (sym now);
    } in
    (step, refl, refl)

pub Step-at : (before after : TreeRefs) (telling : Telling) (refs : List (ℕ × Kept)) (level : ℕ)
    (misfit : Option ℕ) (exchange : Exchange) (coming : Option Coming)
    → exchange ≡ exchange_of before telling → coming ≡ coming_of before level telling
    → (misfit ≡ None → Exchanges (book_of before.refs) (book_of refs) exchange coming)
    → (CanExchange (book_of before.refs) exchange coming → KeepsLevel (book_of before.refs) telling → misfit ≡ None)
    → after ≡ record before { refs = refs; misfit = option_or before.misfit misfit }
    → (step : Step before telling after) × (step.level ≡ level)
Step-at before after telling refs level misfit exchange coming is comes done can noted =
    let whole = Step-whole before after telling refs level misfit exchange coming is comes done can noted in
    (whole.0, whole.1)

pub Step-exchanged : (before after : TreeRefs) (telling : Telling) (refs : List (ℕ × Kept)) (level : ℕ)
    (misfit : Option ℕ) (exchange : Exchange) (coming : Option Coming)
    → exchange ≡ exchange_of before telling → coming ≡ coming_of before level telling
    → (misfit ≡ None → Exchanges (book_of before.refs) (book_of refs) exchange coming)
    → (CanExchange (book_of before.refs) exchange coming → KeepsLevel (book_of before.refs) telling → misfit ≡ None)
    → after ≡ record before { refs = refs; misfit = option_or before.misfit misfit } → Step before telling after
Step-exchanged before after telling refs level misfit exchange coming is comes done can noted =
    (Step-whole before after telling refs level misfit exchange coming is comes done can noted).0

-- what is exchanged by the references that were lent
pub copy-lent : (book : TreeRefs) (refs : List (ℕ × Kept)) (tree : ℕ) (node : Node) → refs ≡ book.refs
    → tree ≡ book.tree → exchange_by_copy (book_of refs) tree node ≡ exchange_by_copy (book_of book.refs) book.tree node
copy-lent book refs tree node same owner = λ i. exchange_by_copy (book_of (same i)) (owner i) node

pub leaving-lent : (book : TreeRefs) (refs : List (ℕ × Kept)) (tree : ℕ) (node : Node) → refs ≡ book.refs
    → tree ≡ book.tree
    → exchange_by_leaving (book_of refs) tree node ≡ exchange_by_leaving (book_of book.refs) book.tree node
leaving-lent book refs tree node same owner = λ i. exchange_by_leaving (book_of (same i)) (owner i) node

-- a misfit that was met before, or is
pub or-none : (first last : Option ℕ) → option_or first last ≡ None → (first ≡ None) × (last ≡ None)
or-none None last none = (refl, none)
or-none (Some at) last none = let wrong : Some at ≡ None = none in cc

pub none-or : (first last : Option ℕ) → first ≡ None → last ≡ None → option_or first last ≡ None
none-or None last a b = b
none-or (Some at) last a b = let wrong : Some at ≡ None = a in cc

-- no node becomes full
abbrev pub exchange_with : List Owing → List Owing → Exchange
exchange_with gains losses = record { full = None; gains = gains; losses = losses }

-- lists in which nothing stands
pub nothing-told : (gains losses : List Listed) → gains ≡ [] → losses ≡ []
    → exchange_with (owings_told gains) (owings_told losses) ≡ exchange_with [] []
nothing-told gains losses first last =
    ap (λ (xs : List Listed). exchange_with (owings_told xs) (owings_told losses)) first
    ∙ ap (λ (ys : List Listed). exchange_with [] (owings_told ys)) last

-- ---- a list of tellings

pub Follows-none : (book : TreeRefs) → Follows book [] book
unfolding Follows
Follows-none book = refl

-- one more
pub Follows-more : (before mid after : TreeRefs) (log : List Telling) (telling : Telling) → Follows before log mid
    → Step mid telling after → Follows before (log ++ telling ∷ []) after
unfolding Follows
Follows-more before mid after [] telling same step =
    (after, subst (λ (book : TreeRefs). Step book telling after) same step, refl)
Follows-more before mid after (first ∷ log) telling follows step =
    (follows.0, follows.1, Follows-more follows.0 mid after log telling follows.2 step)

-- one more of the node that was in memory
pub Follows-left : (before mid after : TreeRefs) (log : List Telling) (node held : Node) (place : Option Node)
    → place ≡ Some held → place ≡ Some node → Follows before log mid
    → Step mid (Left held) after → Follows before (log ++ Left node ∷ []) after
Follows-left before mid after log node held place is was follows step =
    let same : held ≡ node = cc in
    Follows-more before mid after log (Left node) follows (subst (λ (n : Node). Step mid (Left n) after) same step)

pub Follows-copied : (before mid after : TreeRefs) (log : List Telling) (node held : Node) (copy : ℕ)
    (place : Option Node) → place ≡ Some held → place ≡ Some node → Follows before log mid
    → Step mid (Copied held copy) after → Follows before (log ++ Copied node copy ∷ []) after
Follows-copied before mid after log node held copy place is was follows step =
    let same : held ≡ node = cc in
    Follows-more before mid after log (Copied node copy) follows
    (subst (λ (n : Node). Step mid (Copied n copy) after) same step)
