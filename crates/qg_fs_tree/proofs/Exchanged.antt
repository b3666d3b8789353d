-- What one telling makes of a book that stands for ways, names and what is beside, and what a list of them does.
use Rattle.std.proofs.Common.{◌≡◌, ◌≢◌, ℕ, zero, suc, ◌+◌, ◌<◌, ◌≤◌, Bool, true, false, List, [], ◌∷◌, length, get_or}
use Rattle.std.proofs.Common.{Option, Some, None, arith, refl, sym, ap, subst, ◌∙◌, inl, inr}
use Rattle.std.specs.Prelude.{◌⊎◌, ◌&&◌, ◌||◌, ◌==◌, nat_lt, not, if◌then◌else◌}
use Rattle.std.specs.List.{All, Contains, sum_by}
use Rattle.std.specs.Option.{option_or}
use Rattle.std.proofs.lemmas.Bool.{cases_Bool, eq-eqb}
use Rattle.std.proofs.lemmas.Bool.Decides.{eqb_tells}
use Rattle.std.proofs.lemmas.List.Elements.{All-nil}
use Rattle.std.proofs.lemmas.List.Sums.{sum_by-cons}
use Rattle.qg_items.specs.declared.extent.Reference.{Reference}
use Rattle.qg_items.specs.declared.extent.Reference.TheVariants.{KeyedBlock, SharedBlock, KeyedData, SharedData}
use Rattle.qg_node.specs.declared.node.Node.{Node}
use Rattle.qg_node.specs.Nodes.{header_of}
use Rattle.qg_image.specs.State.{Placed}
use Rattle.qg_image.specs.Owed.{Owing, owed_by_node}
use Rattle.qg_cow_refs.proofs.CopyLaws.{owed-shared}
use Rattle.qg_tree_edits.specs.Tellings.{Telling}
use Rattle.qg_tree_edits.specs.Tellings.Telling.{Copied, Made, Left}
use Rattle.qg_refs.specs.Book.{count_at, full_in, references_at, references_in, what_in}
use Rattle.qg_refs.specs.Counts.{greatest_count}
use Rattle.qg_extents.specs.Table.{book_of}
use Rattle.qg_tree_edits.specs.Counting.{IsBare, IsTimely, LeadsNone, Turns, gains, losses, one}
use Rattle.qg_tree_edits.proofs.Ways.{one-here, one-other}
use Rattle.qg_tree_backrefs.specs.declared.tree_refs.TreeRefs.{TreeRefs}
use Rattle.qg_tree_backrefs.specs.Exchange.{CanExchange, Exchange, Exchanges, IsKnown, IsNew, times, turns_full}
use Rattle.qg_tree_backrefs.specs.Exchange.{what_comes}
use Rattle.qg_tree_backrefs.specs.Exchange.{ways_to}
use Rattle.qg_tree_backrefs.specs.Following.{Follows, IsProper, KeepsLevel, Step, coming_of, exchange_of, is_of_level}
use Rattle.qg_tree_backrefs.specs.Following.{references_to}
use Rattle.qg_tree_backrefs.proofs.Times.{times-append, times-nil}
use Rattle.qg_tree_backrefs.proofs.ReferenceTotals.{many, total}
use Rattle.qg_tree_backrefs.proofs.Owings.{known-alike, many-cons, shared-no_block, shared-no_data}
use Rattle.qg_tree_backrefs.proofs.Single.{count-total, length-none, length-one}
use Rattle.qg_fs_tree.proofs.Keyed.{keyed-less, keyed-moved, keyed-none, keyed-own, keyed-same, keyed_ways}
use Rattle.qg_fs_tree.proofs.Owings.{keyed-no_child, names-no_block, names_of}
use Rattle.qg_fs_tree.proofs.Owes.{in-alike, is_own, keyed-other, keyed_in, length-more, many-child, mark_in, owed-own}
use Rattle.qg_fs_tree.proofs.Owes.{owed-parent, owed_in, some-reference, ways-other}
use Rattle.qg_fs_tree.proofs.SlotSums.{over, over-alike, over-moved, over-none, over-one, over-same, over-some}
use Rattle.qg_fs_tree.proofs.Turned.{AreCounted, AreFixed, AreTrueTo, Around, GoesDown, IsCounting, IsLed, IsNewNode}
use Rattle.qg_fs_tree.proofs.Turned.{IsTrueTo, Lasts, StandsFor, Stays, beside_many, beside_sum, child-stays}
use Rattle.qg_fs_tree.proofs.Turned.{children_of, come-alone, come-counts, come-unclean, come_in, copies, foreign-come}
use Rattle.qg_fs_tree.proofs.Turned.{foreign-stays, foreign-within, foreign_then, full_by, gains-new, keyed_sum}
use Rattle.qg_fs_tree.proofs.Turned.{kept_come, kept_mark, kept_nothing, kept_same, leaves, lose_in, losses-few, moving}
use Rattle.qg_fs_tree.proofs.Turned.{no_way, none_or_none, other-half, own-half, own-most, owed_sum, times_come}
use Rattle.qg_fs_tree.proofs.Turned.{times_lost, total-is, turned_by, turning, turning_at, unturned, way_lost}
use Rattle.qg_fs_tree.proofs.Turned.{what_come}

-- ---- plain numbers and choices

-- a way that is lost is one to the node that is copied or left
lost_only : (at q n : ℕ) → one at q ≡ n → (n ≡ 0) ⊎ (q ≡ at)
lost_only at q n is = elim (eqb_tells q at) [
  | inl (equal, same) ↦ inr same
  | inr (unequal, differ) ↦ inl (sym is ∙ one-other at q differ)
]

-- a node or none
none_or_some : {A : Type 0} (o : Option A) → (o ≡ None) ⊎ ((x : A) × (o ≡ Some x))
none_or_some None = inl refl
none_or_some (Some x) = inr (x, refl)

zero_or_more : (n : ℕ) → (n ≡ 0) ⊎ (0 < n)
zero_or_more zero = inl refl
zero_or_more (suc n) = inr (omega arith)

none_in_all : (f : ℕ → Option Placed) (s at : ℕ) → f s ≡ None → many (owed_in (f s)) at ≡ 0
none_in_all f s at none = ap (λ (o : Option Placed). many (owed_in o) at) none

some_in_all : (o : Option Placed) (placed : Placed) (at : ℕ) → o ≡ Some placed → 0 < many (owed_by_node placed) at
    → 0 < many (owed_in o) at
some_in_all o placed at is some =
    let same = ap (λ (p : Option Placed). many (owed_in p) at) is in
    omega (arith, same, some)

-- each that is owed is one of many to its address
many_at : (xs : List Owing) (i : ℕ) (d : Owing) → i < length xs → 0 < many xs (get_or xs i d).address
many_at [] i d inside = absurd (omega (arith, inside))
many_at (x ∷ xs) zero d inside =
    let first = many-cons x xs x.address in
    let here : (if x.address == x.address then 1 else 0) ≡ 1 = here_is x.address in
    omega (arith, first, here) where
      here_is : (n : ℕ) → ◌≡◌ {A = ℕ} (if n == n then 1 else 0) 1
      here_is n = ap {B = ℕ} (λ (b : Bool). if b then 1 else 0) (eq-eqb n n refl)
many_at (x ∷ xs) (suc i) d inside =
    let first = many-cons x xs (get_or xs i d).address in
    let rest = many_at xs i d (omega (arith, inside)) in
    omega (arith, first, rest)

-- what comes to children by keyed references of the owner
come_own : (owner : ℕ) (foreign beside : Option Placed) (at : ℕ) (reference : Reference)
    → times (owed_in beside) at reference ≡ 0
    → times (come_in owner foreign beside) at reference ≤ times (keyed_in owner foreign) at reference
come_own owner None beside at reference none = omega (arith, none)
come_own owner (Some placed) beside at reference none = omega arith

module _ (a : Around) (IsPlace : ℕ → Type 0) (fixed : AreFixed a IsPlace) where
  foreign_is : (foreign : ℕ → Option Placed) → ((q : ℕ) (p : Placed) → foreign q ≡ Some p → a.foreign q ≡ Some p)
      → (at : ℕ) (reference : Reference) → is_own a.owner reference ≡ true → (s : ℕ)
      → times (owed_in (foreign s)) at reference ≡ 0
  foreign_is foreign within at reference own s =
      owed-own a.owner (foreign s) at reference (λ p is. fixed.foreign s p (within s p is)) own

  -- ---- what leads there

  module _ (book : TreeRefs) (w : ℕ → ℕ) (foreign : ℕ → Option Placed)
      (counts : AreCounted a (book_of book.refs) w foreign) (down : GoesDown a w)
      (reached : (q : ℕ) (placed : Placed) → 0 < w q → a.beside q ≡ Some placed → 0 < a.ways q) where
    -- what a node beside leads to, to which no way leads, has a reference
    beside_some : (by at : ℕ) (placed : Placed) → a.beside by ≡ Some placed → w by ≡ 0
        → 0 < many (owed_by_node placed) at
        → 0 < beside_many a w at
    beside_some by at placed is none some =
        let once = fixed.once by (fixed.beside_place by placed is) in
        let part = over-some a.slots by once (no_way w) (λ (s : ℕ). many (owed_in (a.beside s)) at)
        (omega (arith, none)) in
        let here = some_in_all (a.beside by) placed at is some in
        omega (arith, part, here)

    total_of : (at : ℕ) → total (references_at (book_of book.refs) at)
        ≡ w at + many (names_of a.owner a.names) at + (many a.roots at + beside_many a w at)
    total_of at = total-is a (book_of book.refs) w foreign counts at

    some_owed : (by at : ℕ) (placed : Placed) → a.beside by ≡ Some placed → 0 < many (owed_by_node placed) at
        → 0 < total (references_at (book_of book.refs) at)
    some_owed by at placed is some = elim (zero_or_more (w by)) [
      | inl none ↦
          let all = total_of at in
          let part = beside_some by at placed is none some in
          omega (arith, all, part)
      | inr led ↦
          let way = reached by placed led is in
          elim (fixed.named by placed way is at some) [
            | inl child ↦
                let all = total_of at in
                let below = down by placed.node (fixed.beside_clean by placed way is) led at child in
                omega (arith, all, below)
            | inr named ↦ let all = total_of at in omega (arith, all, named)
          ]
    ]

    some_led : (at : ℕ) → IsLed a at → 0 < total (references_at (book_of book.refs) at)
    some_led at led = some_owed led.by at led.placed led.is (many-child led.placed at led.leads)

    pub lasting : (at : ℕ) → Lasts a at → 0 < total (references_at (book_of book.refs) at)
    lasting at (inl named) = let all = total_of at in omega (arith, all, named)
    lasting at (inr (inl there)) = elim (fixed.led at there) [
      | inl root ↦ let all = total_of at in omega (arith, all, root)
      | inr led ↦ some_led at led
    ]
    lasting at (inr (inr owed)) = some_owed owed.by at owed.placed owed.is owed.some

  -- ---- the same ways and nodes

  pub StandsFor-same : (book : TreeRefs) (w v : ℕ → ℕ) (foreign : ℕ → Option Placed) → ((q : ℕ) → v q ≡ w q)
      → StandsFor a IsPlace book w foreign
      → StandsFor a IsPlace book v foreign
  StandsFor-same book w v foreign same stands =
      record {
        mine = stands.mine;
        next = stands.next;
        nodesize = stands.nodesize;
        sound = stands.sound;
        fits = stands.fits;
        counts = λ at reference. same_counts at reference;
        fitting = stands.fitting;
        single = λ at. let e = same at in let most = stands.single at in omega (arith, e, most);
        placed = λ at some. stands.placed at (let e = same at in omega (arith, e, some));
        marks = λ q some. stands.marks q (let e = same q in omega (arith, e, some));
        within = stands.within;
        stays = λ q some. stands.stays q (let e = same q in omega (arith, e, some));
        down = λ q parent clean some child leads.
            let there = stands.down q parent clean (let e = same q in omega (arith, e, some)) child leads in
            let e = same child in
            omega (arith, e, there);
        left = λ q placed none is. stands.left q placed (sym (same q) ∙ none) is;
        lasts = stands.lasts;
      } where
        same_counts : AreCounted a (book_of book.refs) v foreign
        same_counts at reference =
            let count = stands.counts at reference in
            let keyed = over-alike a.slots v w (λ (s : ℕ). times (keyed_in a.owner (foreign s)) at reference) same in
            let owed = over-alike a.slots v w (λ (s : ℕ). times (owed_in (foreign s)) at reference) same in
            let beside = over-alike a.slots (no_way v) (no_way w)
            (λ (s : ℕ). times (owed_in (a.beside s)) at reference)
            (λ s. let e = same s in omega (arith, e)) in
            let own = keyed-same a.owner v w at reference (same at) in
            omega (arith, count, keyed, owed, beside, own)

  module _ (book : TreeRefs) (w : ℕ → ℕ) (foreign : ℕ → Option Placed)
      (stands : StandsFor a IsPlace book w foreign) where
    -- what is reached and beside was reached at first
    pub reached_first : (q : ℕ) (placed : Placed) → 0 < w q → a.beside q ≡ Some placed → 0 < a.ways q
    reached_first q placed some is = elim (stands.stays q some) [
      | inl (young, bare, alone) ↦ absurd cc
      | inr (way, as_first, as_known) ↦ way
    ]

    stays_first : (q : ℕ) (placed : Placed) → 0 < w q → a.beside q ≡ Some placed → foreign q ≡ a.foreign q
    stays_first q placed some is = elim (stands.stays q some) [
      | inl (young, bare, alone) ↦ absurd cc
      | inr (way, as_first, as_known) ↦ as_first
    ]

    -- nobody else leads to where nothing is beside
    no_others : (at : ℕ) → IsPlace at → a.beside at ≡ None → many a.roots at + beside_many a w at ≡ 0
    no_others at place alone =
        let roots = fixed.roots_beside at alone in
        let others = over-none a.slots (no_way w) (λ (s : ℕ). many (owed_in (a.beside s)) at)
        (λ s some. elim (none_or_some (a.beside s)) [
          | inl none ↦ none_in_all a.beside s at none
          | inr (placed, is) ↦
              ap (λ (o : Option Placed). many (owed_in o) at) is ∙ fixed.closed at s placed place alone is
        ]) in
        omega (arith, roots, others)

    -- one reference leads where a way does alone
    pub references-one : (at : ℕ) → 0 < w at → a.beside at ≡ None → references_to (book_of book.refs) at ≡ 1
    references-one at some alone =
        length-one (references_at (book_of book.refs) at) (stands.sound.sound at)
        (let all = total-is a (book_of book.refs) w foreign stands.counts at in
        let others = no_others at (stands.placed at some) alone in
        let unnamed = fixed.apart at (stands.placed at some) in
        let most = stands.single at in
        omega (arith, all, others, unnamed, most, some))

    -- none leads to a place where no way does
    none_in : (at : ℕ) → IsPlace at → a.beside at ≡ None → w at ≡ 0 → total (references_at (book_of book.refs) at) ≡ 0
    none_in at place alone no_ways =
        let all = total-is a (book_of book.refs) w foreign stands.counts at in
        let others = no_others at place alone in
        let unnamed = fixed.apart at place in
        omega (arith, all, others, unnamed, no_ways)

    pub references-none : (at : ℕ) → IsPlace at → a.beside at ≡ None → w at ≡ 0
        → references_to (book_of book.refs) at ≡ 0
    references-none at place alone no_ways =
        length-none (references_at (book_of book.refs) at) (stands.sound.sound at) (none_in at place alone no_ways)

    none_there : (at : ℕ) → IsPlace at → a.beside at ≡ None → w at ≡ 0 → (reference : Reference)
        → count_at (book_of book.refs) at reference ≡ 0
    none_there at place alone no_ways reference =
        let none = none_in at place alone no_ways in
        let most = count-total (references_at (book_of book.refs) at) reference in
        omega (arith, none, most)

    own_of : (at : ℕ) (reference : Reference) → is_own a.owner reference ≡ true
        → count_at (book_of book.refs) at reference + keyed_sum a foreign w at reference
        ≡ keyed_ways a.owner w at reference + times (names_of a.owner a.names) at reference
    own_of = own-half a IsPlace fixed (book_of book.refs) w foreign stands.within stands.counts

    other_of : (at : ℕ) (reference : Reference) → is_own a.owner reference ≡ false
        → count_at (book_of book.refs) at reference
        ≡ owed_sum a foreign w at reference + (times a.roots at reference + beside_sum a w at reference)
    other_of = other-half a IsPlace fixed (book_of book.refs) w foreign stands.within stands.counts

    -- ---- the tree's own reference is there, to what no clean node leads to

    keyed_not : (at tree : ℕ) (o : Option Placed)
        → ((p : Placed) → o ≡ Some p → Contains (children_of p.node) at → ⊥)
        → times (keyed_in a.owner o) at (KeyedBlock tree) ≡ 0
    keyed_not at tree None apart = times-nil at (KeyedBlock tree)
    keyed_not at tree (Some p) apart = keyed-no_child p.node a.owner tree at (apart p refl)

    no_keyed : (at tree : ℕ) → LeadsNone a.clean w at → keyed_sum a foreign w at (KeyedBlock tree) ≡ 0
    no_keyed at tree alone =
        over-none a.slots w (λ (s : ℕ). times (keyed_in a.owner (foreign s)) at (KeyedBlock tree))
        (λ s some. keyed_not at tree (foreign s)
        (λ p is. alone s p.node (fixed.foreign_clean s p (stands.within s p is)) some))

    own_there : (at : ℕ) → LeadsNone a.clean w at → (l : ℕ → ℕ) (tree : ℕ) → l at ≤ w at
        → keyed_ways a.owner l at (KeyedBlock tree) ≤ count_at (book_of book.refs) at (KeyedBlock tree)
    own_there at alone l tree less =
        let count = stands.counts at (KeyedBlock tree) in
        let keyed = no_keyed at tree alone in
        let most = keyed-less a.owner l w at (KeyedBlock tree) less in
        omega (arith, count, keyed, most)

    own_lost : (at q tree n : ℕ) → LeadsNone a.clean w at → 0 < w at → one at q ≡ n
        → keyed_ways a.owner (one at) q (KeyedBlock tree) ≤ count_at (book_of book.refs) q (KeyedBlock tree)
    own_lost at q tree n alone some is = elim (lost_only at q n is) [
      | inl none ↦ let zero = keyed-none a.owner (one at) q (KeyedBlock tree) (is ∙ none) in omega (arith, zero)
      | inr same ↦
          let less : one at q ≤ w q = (let e = ap w same in let o = one-here at q same in omega (arith, e, o, some)) in
          own_there q (subst (λ (b : ℕ). LeadsNone a.clean w b) (sym same) alone) (one at) tree less
    ]

    way_there : (telling : Telling) → IsTimely telling w → IsTrueTo a w telling → (at tree : ℕ)
        → keyed_ways a.owner (losses telling) at (KeyedBlock tree) ≤ count_at (book_of book.refs) at (KeyedBlock tree)
    way_there (Copied node copy) timely is at tree =
        own_lost (header_of node).address at tree (one (header_of node).address at) is.down timely.0 refl
    way_there (Made address) timely is at tree =
        let none = keyed-none a.owner (losses (Made address)) at (KeyedBlock tree) refl in
        omega (arith, none)
    way_there (Left node) timely is at tree =
        own_lost (header_of node).address at tree (one (header_of node).address at) is.down timely refl

    -- ---- more than one leads to what is beside

    own_once : (at : ℕ) → 0 < w at → LeadsNone a.clean w at
        → count_at (book_of book.refs) at (KeyedBlock a.owner) ≡ 1
    own_once at some alone =
        let half = own_of at (KeyedBlock a.owner) (eq-eqb a.owner a.owner refl) in
        let keyed = no_keyed at a.owner alone in
        let unnamed = names-no_block a.owner a.names a.owner at in
        let own = keyed-own a.owner w at in
        let most = stands.single at in
        omega (arith, half, keyed, unnamed, own, most, some)

    other_way : (at : ℕ) (placed : Placed) → a.beside at ≡ Some placed → LeadsNone a.clean w at
        → 0 < many a.roots at + beside_many a w at
    other_way at placed is alone = elim (fixed.led at (record { placed = placed; is = is })) [
      | inl root ↦ omega (arith, root)
      | inr led ↦ elim (zero_or_more (w led.by)) [
        | inl none ↦
            let part = beside_some book w foreign stands.counts stands.down reached_first led.by at led.placed led.is
            none (many-child led.placed at led.leads) in
            omega (arith, part)
        | inr some ↦
            let way = reached_first led.by led.placed some led.is in
            absurd (alone led.by led.placed.node (fixed.beside_clean led.by led.placed way led.is) some led.leads)
      ]
    ]

    pub references-more : (at : ℕ) (placed : Placed) → 0 < w at → a.beside at ≡ Some placed → LeadsNone a.clean w at
        → 2 ≤ references_to (book_of book.refs) at
    references-more at placed some is alone =
        length-more (references_at (book_of book.refs) at) (KeyedBlock a.owner) (own_once at some alone)
        (let all = total-is a (book_of book.refs) w foreign stands.counts at in
        let others = other_way at placed is alone in
        omega (arith, all, others, some))

    -- ---- what is told

    counting : (node : Node) (copy : ℕ) → 0 < w (header_of node).address → IsTrueTo a w (Copied node copy)
        → IsCounting a (foreign (header_of node).address) (a.beside (header_of node).address) node
        (references_to (book_of book.refs) (header_of node).address)
        (full_in (book_of book.refs (header_of node).address))
    counting node copy some is = record {
      alone = λ none. references-one (header_of node).address some none;
      more = λ placed there. references-more (header_of node).address placed some there is.down;
      mark = stands.marks (header_of node).address some;
      foreign_node = λ placed there. is.foreign placed (stands.within (header_of node).address placed there);
      beside_node = is.beside;
      foreign_is = λ placed there. fixed.foreign (header_of node).address placed
          (stands.within (header_of node).address placed there);
      home = λ placed there none. at_home (header_of node).address placed there none;
      own = λ placed none there.
          let as_first = stays_first (header_of node).address placed some there in
          fixed.own (header_of node).address placed
          (reached_first (header_of node).address placed some there) (sym as_first ∙ none) there;
    } where
      at_home : (at : ℕ) (placed : Placed) → foreign at ≡ Some placed → a.beside at ≡ None → placed.full ≡ true
      at_home at placed there none = elim (cases_Bool placed.full) [
        | inl full ↦ full
        | inr bare ↦
            let home = fixed.home at placed (stands.within at placed there) bare in
            let wrong : None ≡ Some home.placed = sym none ∙ home.is in
            absurd cc
      ]

    left_alone : (at : ℕ) → 0 < w at → (0 < a.ways at → a.foreign at ≡ None) → (0 < a.ways at → a.beside at ≡ None)
        → (foreign at ≡ None) × (a.beside at ≡ None)
    left_alone at some bare alone = elim (stands.stays at some) [
      | inl (young, none, apart) ↦ (none, apart)
      | inr (way, as_first, as_known) ↦ (as_first ∙ bare way, alone way)
    ]

    pub exchange-is : (telling : Telling) → IsTimely telling w → IsBare telling → IsTrueTo a w telling
        → exchange_of book telling ≡ moving a foreign telling
    exchange-is (Copied node copy) timely bare is =
        copies book a node copy (foreign (header_of node).address) (a.beside (header_of node).address) stands.mine
        (counting node copy timely.0 is)
    exchange-is (Made address) timely bare is = refl
    exchange-is (Left node) timely bare is =
        leaves book a.owner node stands.mine
        (references-one (header_of node).address timely
        (left_alone (header_of node).address timely is.foreign is.alone).1) bare

    -- ---- what is lost is there

    -- what a foreign node owes
    foreign_there : (q : ℕ) → 0 < w q → (at : ℕ) (reference : Reference)
        → times (owed_in (foreign q)) at reference ≤ count_at (book_of book.refs) at reference
    foreign_there q some at reference = elim (cases_Bool (is_own a.owner reference)) [
      | inl own ↦ let none = foreign_is foreign stands.within at reference own q in omega (arith, none)
      | inr other ↦
          let half = other_of at reference other in
          let part = over-some a.slots q (fixed.once q (stands.placed q some)) w
          (λ (s : ℕ). times (owed_in (foreign s)) at reference) some in
          omega (arith, half, part)
    ]

    lost_part : (o beside : Option Placed) (at : ℕ) (reference : Reference)
        → times (lose_in o beside) at reference ≤ times (owed_in o) at reference
    lost_part None beside at reference = omega arith
    lost_part (Some placed) None at reference = omega arith
    lost_part (Some placed) (Some other) at reference = let none = times-nil at reference in omega (arith, none)

    -- no keyed one to a node
    lost_block : (o beside : Option Placed) (at tree : ℕ)
        → ((p : Placed) → o ≡ Some p → beside ≡ None → p.full ≡ true)
        → times (lose_in o beside) at (KeyedBlock tree) ≡ 0
    lost_block None beside at tree home = times-nil at (KeyedBlock tree)
    lost_block (Some placed) None at tree home =
        ap (λ (owed : List Owing). times owed at (KeyedBlock tree)) (owed-shared placed (home placed refl refl))
        ∙ shared-no_block placed.node tree at
    lost_block (Some placed) (Some other) at tree home = times-nil at (KeyedBlock tree)

    lose_there : (telling : Telling) → IsTimely telling w → (at : ℕ) (reference : Reference)
        → times (lose_in (turning foreign telling) (turning a.beside telling)) at reference
        ≤ count_at (book_of book.refs) at reference
    lose_there (Copied node copy) timely at reference =
        let part = lost_part (foreign (header_of node).address) (a.beside (header_of node).address) at reference in
        let there = foreign_there (header_of node).address timely.0 at reference in
        omega (arith, part, there)
    lose_there (Made address) timely at reference = let none = times-nil at reference in omega (arith, none)
    lose_there (Left node) timely at reference = let none = times-nil at reference in omega (arith, none)

    lose_block : (telling : Telling) → IsTimely telling w → IsTrueTo a w telling → (at tree : ℕ)
        → times (lose_in (turning foreign telling) (turning a.beside telling)) at (KeyedBlock tree) ≡ 0
    lose_block (Copied node copy) timely is at tree =
        lost_block (foreign (header_of node).address) (a.beside (header_of node).address) at tree
        (λ p there none. (counting node copy timely.0 is).home p there none)
    lose_block (Made address) timely is at tree = times-nil at (KeyedBlock tree)
    lose_block (Left node) timely is at tree = times-nil at (KeyedBlock tree)

    lost_there : (telling : Telling) → IsTimely telling w → IsTrueTo a w telling → (at : ℕ) (reference : Reference)
        → keyed_ways a.owner (losses telling) at reference
        + times (lose_in (turning foreign telling) (turning a.beside telling)) at reference
        ≤ count_at (book_of book.refs) at reference
    lost_there telling timely is at (KeyedBlock tree) =
        let way = way_there telling timely is at tree in
        let none = lose_block telling timely is at tree in
        omega (arith, way, none)
    lost_there telling timely is at (KeyedData tree ino offset) =
        let part = lose_there telling timely at (KeyedData tree ino offset) in omega (arith, part)
    lost_there telling timely is at (SharedBlock parent) =
        let part = lose_there telling timely at (SharedBlock parent) in omega (arith, part)
    lost_there telling timely is at (SharedData parent) =
        let part = lose_there telling timely at (SharedData parent) in omega (arith, part)

    -- ---- what is gained has room

    -- nothing owes shared references by a node that is the owner's and not full
    not_parent : (q s : ℕ) (o : Option Placed) → ((p : Placed) → o ≡ Some p → (header_of p.node).address ≡ s)
        → (s ≡ q → o ≡ None)
        → (p : Placed) → o ≡ Some p → (header_of p.node).address ≢ q
    not_parent q s o addressed none p is same =
        let there : s ≡ q = sym (addressed p is) ∙ same in
        let wrong : None ≡ Some p = sym (none there) ∙ is in
        absurd cc

    unshared_foreign : (q : ℕ) → foreign q ≡ None → (s : ℕ) (p : Placed) → foreign s ≡ Some p
        → (header_of p.node).address ≢ q
    unshared_foreign q none s =
        not_parent q s (foreign s) (λ p is. fixed.foreign_at s p (stands.within s p is))
        (λ same. ap foreign same ∙ none)

    unshared_beside : (q : ℕ) → 0 < w q → (s : ℕ) → 0 < no_way w s → (p : Placed) → a.beside s ≡ Some p
        → (header_of p.node).address ≢ q
    unshared_beside q some s left p is same =
        let there : s ≡ q = sym (fixed.beside_at s p is) ∙ same in
        let e = ap w there in
        absurd (omega (arith, e, some, left))

    unshared_block : (q at : ℕ) → 0 < w q → foreign q ≡ None → count_at (book_of book.refs) at (SharedBlock q) ≡ 0
    unshared_block q at some none =
        let half = other_of at (SharedBlock q) refl in
        let owed = over-none a.slots w (λ (s : ℕ). times (owed_in (foreign s)) at (SharedBlock q))
        (λ s led. (owed-parent (foreign s) q at (unshared_foreign q none s)).0) in
        let beside = over-none a.slots (no_way w) (λ (s : ℕ). times (owed_in (a.beside s)) at (SharedBlock q))
        (λ s left. (owed-parent (a.beside s) q at (unshared_beside q some s left)).0) in
        let roots = (fixed.roots_shared q at).0 in
        omega (arith, half, owed, beside, roots)

    unshared_data : (q at : ℕ) → 0 < w q → foreign q ≡ None → count_at (book_of book.refs) at (SharedData q) ≡ 0
    unshared_data q at some none =
        let half = other_of at (SharedData q) refl in
        let owed = over-none a.slots w (λ (s : ℕ). times (owed_in (foreign s)) at (SharedData q))
        (λ s led. (owed-parent (foreign s) q at (unshared_foreign q none s)).1) in
        let beside = over-none a.slots (no_way w) (λ (s : ℕ). times (owed_in (a.beside s)) at (SharedData q))
        (λ s left. (owed-parent (a.beside s) q at (unshared_beside q some s left)).1) in
        let roots = (fixed.roots_shared q at).1 in
        omega (arith, half, owed, beside, roots)

    -- a node that becomes full
    full_room : (q : ℕ) (placed : Placed) → 0 < w q → foreign q ≡ None → a.beside q ≡ Some placed
        → placed.full ≡ true
        → (at : ℕ) (reference : Reference)
        → count_at (book_of book.refs) at reference + times (owed_by_node placed) at reference
        ≤ greatest_count reference
    full_room q placed some none is full at (KeyedBlock tree) =
        let owed = ap (λ (o : List Owing). times o at (KeyedBlock tree)) (owed-shared placed full)
        ∙ shared-no_block placed.node tree at in
        let fits = stands.fitting at (KeyedBlock tree) in
        omega (arith, owed, fits)
    full_room q placed some none is full at (KeyedData tree ino offset) =
        let owed = ap (λ (o : List Owing). times o at (KeyedData tree ino offset)) (owed-shared placed full)
        ∙ shared-no_data placed.node tree ino offset at in
        let fits = stands.fitting at (KeyedData tree ino offset) in
        omega (arith, owed, fits)
    full_room q placed some none is full at (SharedBlock parent) = elim (eqb_tells q parent) [
      | inl (equal, same) ↦
          let count = unshared_block q at some none in
          let as_parent = ap (λ (n : ℕ). count_at (book_of book.refs) at (SharedBlock n)) same in
          let fits = fixed.fits q placed is at (SharedBlock parent) in
          omega (arith, count, as_parent, fits)
      | inr (unequal, differ) ↦
          let owed = (owed-parent (Some placed) parent at
          (λ p there same. differ (sym (fixed.beside_at q p (is ∙ there)) ∙ same))).0 in
          let fits = stands.fitting at (SharedBlock parent) in
          omega (arith, owed, fits)
    ]
    full_room q placed some none is full at (SharedData parent) = elim (eqb_tells q parent) [
      | inl (equal, same) ↦
          let count = unshared_data q at some none in
          let as_parent = ap (λ (n : ℕ). count_at (book_of book.refs) at (SharedData n)) same in
          let fits = fixed.fits q placed is at (SharedData parent) in
          omega (arith, count, as_parent, fits)
      | inr (unequal, differ) ↦
          let owed = (owed-parent (Some placed) parent at
          (λ p there same. differ (sym (fixed.beside_at q p (is ∙ there)) ∙ same))).1 in
          let fits = stands.fitting at (SharedData parent) in
          omega (arith, owed, fits)
    ]

    -- keyed references of the owner
    keyed_room : (q : ℕ) → 0 < w q → (at : ℕ) (reference : Reference)
        → count_at (book_of book.refs) at reference + times (keyed_in a.owner (foreign q)) at reference
        ≤ greatest_count reference
    keyed_room q some at reference = elim (cases_Bool (is_own a.owner reference)) [
      | inl own ↦
          let half = own_of at reference own in
          let part = over-some a.slots q (fixed.once q (stands.placed q some)) w
          (λ (s : ℕ). times (keyed_in a.owner (foreign s)) at reference) some in
          let most = own-most a.owner a.names w at reference (stands.single at) (fixed.few at reference) own in
          omega (arith, half, part, most)
      | inr other ↦
          let none = keyed-other a.owner (foreign q) at reference other in
          let fits = stands.fitting at reference in
          omega (arith, none, fits)
    ]

    come_room : (q : ℕ) (f b : Option Placed) → 0 < w q → foreign q ≡ f → a.beside q ≡ b → (at : ℕ)
        (reference : Reference)
        → count_at (book_of book.refs) at reference + times (come_in a.owner f b) at reference
        ≤ greatest_count reference
    come_room q None None some is there at reference =
        let none = times-nil at reference in
        let fits = stands.fitting at reference in
        omega (arith, none, fits)
    come_room q None (Some placed) some is there at reference =
        full_room q placed some is there
        (fixed.own q placed (reached_first q placed some there) (sym (stays_first q placed some there) ∙ is) there).0
        at reference
    come_room q (Some placed) b some is there at reference =
        let room = keyed_room q some at reference in
        let same = ap (λ (o : Option Placed). times (keyed_in a.owner o) at reference) is in
        omega (arith, room, same)

    room_there : (telling : Telling) → IsTimely telling w → (at : ℕ) (reference : Reference)
        → count_at (book_of book.refs) at reference
        + times (come_in a.owner (turning foreign telling) (turning a.beside telling)) at reference
        ≤ greatest_count reference
    room_there (Copied node copy) timely at reference =
        come_room (header_of node).address (foreign (header_of node).address) (a.beside (header_of node).address)
        timely.0 refl refl at reference
    room_there (Made address) timely at reference =
        let none = times-nil at reference in
        let fits = stands.fitting at reference in
        omega (arith, none, fits)
    room_there (Left node) timely at reference =
        let none = times-nil at reference in
        let fits = stands.fitting at reference in
        omega (arith, none, fits)

    -- ---- what is gained is known

    known_owed : (q : ℕ) (placed : Placed) → a.beside q ≡ Some placed
        → All (λ owing. IsKnown (book_of book.refs) owing.address) (owed_by_node placed)
    known_owed q placed is i d inside =
        let at : ℕ = (get_or (owed_by_node placed) i d).address in
        some-reference (references_at (book_of book.refs) at)
        (some_owed book w foreign stands.counts stands.down reached_first q at placed is
        (many_at (owed_by_node placed) i d inside))

    come_known : (q : ℕ) (f b : Option Placed) → 0 < w q → foreign q ≡ f → a.beside q ≡ b
        → All (λ owing. IsKnown (book_of book.refs) owing.address) (come_in a.owner f b)
    come_known q None None some is there = All-nil (λ (owing : Owing). IsKnown (book_of book.refs) owing.address)
    come_known q None (Some placed) some is there = known_owed q placed there
    come_known q (Some placed) b some is there =
        known-alike (book_of book.refs) (keyed_in a.owner (Some placed)) (owed_in (Some placed))
        (in-alike a.owner (Some placed)) (λ at reference.
        let part = foreign_there q some at reference in
        let same = ap (λ (o : Option Placed). times (owed_in o) at reference) is in
        omega (arith, part, same))

    known_there : (telling : Telling) → IsTimely telling w
        → All (λ owing. IsKnown (book_of book.refs) owing.address)
        (come_in a.owner (turning foreign telling) (turning a.beside telling))
    known_there (Copied node copy) timely =
        come_known (header_of node).address (foreign (header_of node).address) (a.beside (header_of node).address)
        timely.0 refl refl
    known_there (Made address) timely = All-nil (λ (owing : Owing). IsKnown (book_of book.refs) owing.address)
    known_there (Left node) timely = All-nil (λ (owing : Owing). IsKnown (book_of book.refs) owing.address)

    is_new : (telling : Telling) → IsTimely telling w → IsTrueTo a w telling
        → ((q : ℕ) → 0 < gains telling q → IsPlace q)
        → IsNew (book_of book.refs) (coming_of book 0 telling)
    is_new (Copied node copy) timely is new =
        let here = one-here copy copy refl in
        none_there copy (new copy (omega (arith, here))) is.alone timely.1
    is_new (Made address) timely is new =
        let here = one-here address address refl in
        none_there address (new address (omega (arith, here))) is.alone timely
    is_new (Left node) timely is new = tt

    can_exchange : (telling : Telling) → IsTimely telling w → IsBare telling → IsTrueTo a w telling
        → ((q : ℕ) → 0 < gains telling q → IsPlace q)
        → CanExchange (book_of book.refs) (exchange_of book telling) (coming_of book 0 telling)
    can_exchange telling timely bare is new =
        subst (λ (exchange : Exchange). CanExchange (book_of book.refs) exchange (coming_of book 0 telling))
        (sym (exchange-is telling timely bare is)) (record {
          there = record {
            there = λ at reference.
                let lost = times_lost a.owner telling at reference in
                let both = times-append (way_lost a.owner telling)
                (lose_in (turning foreign telling) (turning a.beside telling)) at reference in
                let there = lost_there telling timely is at reference in
                omega (arith, lost, both, there);
          };
          room = record {
            room = room_there telling timely;
            known = known_there telling timely;
          };
          first = is_new telling timely is new;
        })

    -- what is left does not stay: it has the one reference
    level_kept : (telling : Telling) → IsTimely telling w → IsTrueTo a w telling
        → KeepsLevel (book_of book.refs) telling
    level_kept (Copied node copy) timely is = tt
    level_kept (Made address) timely is = tt
    level_kept (Left node) timely is =
        let known = is_of_level (what_in (book_of book.refs (header_of node).address)) (header_of node).level in
        ap {B = Option ℕ} (λ (n : ℕ). if nat_lt 1 n && not known then Some (header_of node).address else None)
        (references-one (header_of node).address timely
        (left_alone (header_of node).address timely is.foreign is.alone).1)

    pub proper : (telling : Telling) → IsTimely telling w → IsBare telling → IsTrueTo a w telling
        → ((q : ℕ) → 0 < gains telling q → IsPlace q) → IsProper telling book
    proper telling timely bare is new =
        record { can = can_exchange telling timely bare is new; level = level_kept telling timely is }

  -- ---- what it makes of the book

  module _ (before after : TreeRefs) (w : ℕ → ℕ) (foreign : ℕ → Option Placed)
      (stands : StandsFor a IsPlace before w foreign) (telling : Telling)
      (timely : IsTimely telling w) (is : IsTrueTo a w telling) (new : (q : ℕ) → 0 < gains telling q → IsPlace q)
      (level : ℕ)
      (done : Exchanges (book_of before.refs) (book_of after.refs) (moving a foreign telling)
      (coming_of before level telling)) where
    ways_moved : (at : ℕ) → turned_by telling w at + losses telling at ≡ w at + gains telling at
    ways_moved at = let few = losses-few telling w at timely in omega (arith, few)

    -- a way came, the only one, or there is none that was not there
    came_or_less : (at n : ℕ) → gains telling at ≡ n
        → ((0 < gains telling at) × (w at ≡ 0) × (turned_by telling w at ≤ 1)) ⊎ (turned_by telling w at ≤ w at)
    came_or_less at zero none = inr (omega (arith, none))
    came_or_less at (suc n) some =
        let only = gains-new telling w at timely (omega (arith, some)) in
        let none = only.0 in
        let once = only.1 in
        inl (omega (arith, some), none, omega (arith, none, once))

    single_then : (at : ℕ) → turned_by telling w at ≤ 1
    single_then at = elim (came_or_less at (gains telling at) refl) [
      | inl (came, none, most) ↦ most
      | inr less ↦ let most = stands.single at in omega (arith, less, most)
    ]

    within_then : (q : ℕ) (placed : Placed) → foreign_then telling foreign q ≡ Some placed → a.foreign q ≡ Some placed
    within_then q placed there = stands.within q placed (foreign-within telling foreign q placed there)

    -- a sum over foreign nodes loses the one that is copied
    lost_sum : (t : Telling) (f : Option Placed → ℕ) → f None ≡ 0 → IsTimely t w → IsTrueTo a w t
        → over a.slots (losses t) (λ s. f (foreign_then t foreign s)) ≡ f (turning foreign t)
    lost_sum (Copied node copy) f none now truth =
        over-one a.slots (header_of node).address
        (fixed.once (header_of node).address (stands.placed (header_of node).address now.0))
        (λ (s : ℕ). f (foreign_then (Copied node copy) foreign s))
        ∙ ap f (foreign-stays (Copied node copy) foreign w (header_of node).address now now.0)
    lost_sum (Made address) f none now truth =
        over-none a.slots (losses (Made address)) (λ (s : ℕ). f (foreign_then (Made address) foreign s))
        (λ s some. absurd (omega (arith, some)))
        ∙ sym none
    lost_sum (Left node) f none now truth =
        over-one a.slots (header_of node).address
        (fixed.once (header_of node).address (stands.placed (header_of node).address now))
        (λ (s : ℕ). f (foreign s))
        ∙ ap f (left_alone before w foreign stands (header_of node).address now truth.foreign truth.alone).0

    sum_moved : (f : Option Placed → ℕ) → f None ≡ 0
        → over a.slots (turned_by telling w) (λ s. f (foreign_then telling foreign s)) + f (turning foreign telling)
        ≡ over a.slots w (λ s. f (foreign s))
    sum_moved f none =
        let moved = over-moved a.slots (turned_by telling w) (losses telling) w (gains telling)
        (λ (s : ℕ). f (foreign_then telling foreign s)) ways_moved in
        let lost = lost_sum telling f none timely is in
        let gained = over-none a.slots (gains telling) (λ (s : ℕ). f (foreign_then telling foreign s))
        (λ s some. ap f (foreign-come telling foreign s some) ∙ none) in
        let same = over-same a.slots w (λ (s : ℕ). f (foreign_then telling foreign s)) (λ (s : ℕ). f (foreign s))
        (λ s some. ap f (foreign-stays telling foreign w s timely some)) in
        omega (arith, moved, lost, gained, same)

    -- and one over what is beside gains it
    gained_sum : (t : Telling) (f : Option Placed → ℕ) → f None ≡ 0 → IsTimely t w → IsTrueTo a w t
        → over a.slots (losses t) (λ s. f (a.beside s)) ≡ f (turning a.beside t)
    gained_sum (Copied node copy) f none now truth =
        over-one a.slots (header_of node).address
        (fixed.once (header_of node).address (stands.placed (header_of node).address now.0))
        (λ (s : ℕ). f (a.beside s))
    gained_sum (Made address) f none now truth =
        over-none a.slots (losses (Made address)) (λ (s : ℕ). f (a.beside s))
        (λ s some. absurd (omega (arith, some)))
        ∙ sym none
    gained_sum (Left node) f none now truth =
        over-one a.slots (header_of node).address
        (fixed.once (header_of node).address (stands.placed (header_of node).address now))
        (λ (s : ℕ). f (a.beside s))
        ∙ ap f (left_alone before w foreign stands (header_of node).address now truth.foreign truth.alone).1

    beside_moved : (f : Option Placed → ℕ) → f None ≡ 0
        → over a.slots (no_way (turned_by telling w)) (λ s. f (a.beside s))
        ≡ over a.slots (no_way w) (λ s. f (a.beside s)) + f (turning a.beside telling)
    beside_moved f none =
        let moved = over-moved a.slots (no_way (turned_by telling w)) (gains telling) (no_way w) (losses telling)
        (λ (s : ℕ). f (a.beside s))
        (λ s.
        let ways = ways_moved s in
        let was = stands.single s in
        let now = single_then s in
        omega (arith, ways, was, now)) in
        let lost = gained_sum telling f none timely is in
        let gained = over-none a.slots (gains telling) (λ (s : ℕ). f (a.beside s))
        (λ s some. ap f (come-alone a telling w s is some) ∙ none) in
        omega (arith, moved, lost, gained)

    turning_same : (t : Telling) (placed other : Placed) → turning foreign t ≡ Some placed
        → turning a.beside t ≡ Some other → other ≡ placed
    turning_same (Copied node copy) placed other there beside =
        fixed.same (header_of node).address placed other (stands.within (header_of node).address placed there) beside
    turning_same (Made address) placed other there beside = absurd cc
    turning_same (Left node) placed other there beside = absurd cc

    counts_then : AreCounted a (book_of after.refs) (turned_by telling w) (foreign_then telling foreign)
    counts_then at reference =
        let keyed = sum_moved (λ (f : Option Placed). times (keyed_in a.owner f) at reference)
        (times-nil at reference) in
        let owed = sum_moved (λ (f : Option Placed). times (owed_in f) at reference) (times-nil at reference) in
        let beside = beside_moved (λ (f : Option Placed). times (owed_in f) at reference) (times-nil at reference) in
        let all = come-counts a.owner (turning foreign telling) (turning a.beside telling) at reference
        (turning_same telling) in
        let lost = times_lost a.owner telling at reference in
        let losing = times-append (way_lost a.owner telling)
        (lose_in (turning foreign telling) (turning a.beside telling)) at reference in
        let come = times_come before a.owner level telling at reference stands.mine in
        let gaining = times-append (ways_to (coming_of before level telling))
        (come_in a.owner (turning foreign telling) (turning a.beside telling)) at reference in
        let moved = keyed-moved a.owner (turned_by telling w) w (losses telling) (gains telling) at reference
        (ways_moved at) in
        let count = stands.counts at reference in
        let now = done.counts at reference in
        omega (arith, keyed, owed, beside, all, lost, losing, come, gaining, moved, count, now)

    fitting_then : (at : ℕ) (reference : Reference) → count_at (book_of after.refs) at reference
        ≤ greatest_count reference
    fitting_then at reference = elim (cases_Bool (is_own a.owner reference)) [
      | inl own ↦
          let half = own-half a IsPlace fixed (book_of after.refs) (turned_by telling w) (foreign_then telling foreign)
          within_then counts_then at reference own in
          let most = own-most a.owner a.names (turned_by telling w) at reference (single_then at)
          (fixed.few at reference) own in
          omega (arith, half, most)
      | inr other ↦
          let room = room_there before w foreign stands telling timely at reference in
          let come = times_come before a.owner level telling at reference stands.mine in
          let none = ways-other a.owner (gains telling) at reference other in
          let gaining = times-append (ways_to (coming_of before level telling))
          (come_in a.owner (turning foreign telling) (turning a.beside telling)) at reference in
          let now = done.counts at reference in
          omega (arith, room, come, none, gaining, now)
    ]

    placed_then : (at : ℕ) → 0 < turned_by telling w at → IsPlace at
    placed_then at some = elim (came_or_less at (gains telling at) refl) [
      | inl (came, none, most) ↦ new at came
      | inr less ↦ stands.placed at (omega (arith, less, some))
    ]

    down_then : GoesDown a (turned_by telling w)
    down_then q parent clean some child leads = elim (came_or_less q (gains telling q) refl) [
      | inl (came, none, most) ↦
          let unclean = come-unclean a telling w q is came in
          let wrong : None ≡ Some parent = sym unclean ∙ clean in
          absurd cc
      | inr less ↦
          let was : 0 < w q = omega (arith, less, some) in
          let below = stands.down q parent clean was child leads in
          let stays = child-stays a telling w q child parent is clean was leads in
          let moved = ways_moved child in
          omega (arith, below, stays, moved)
    ]

    reached_then : (q : ℕ) (placed : Placed) → 0 < turned_by telling w q → a.beside q ≡ Some placed → 0 < a.ways q
    reached_then q placed some there = elim (came_or_less q (gains telling q) refl) [
      | inl (came, none, most) ↦
          let alone = come-alone a telling w q is came in
          let wrong : None ≡ Some placed = sym alone ∙ there in
          absurd cc
      | inr less ↦ reached_first before w foreign stands q placed (omega (arith, less, some)) there
    ]

    -- nothing was kept where a node comes
    nothing_before : (at : ℕ) → 0 < gains telling at → w at ≡ 0 → book_of before.refs at ≡ None
    nothing_before at came none =
        kept_nothing (book_of before.refs at) (λ kept there. stands.sound.some at kept there)
        (references-none before w foreign stands at (new at came) (come-alone a telling w at is came) none)

    total_then : (at : ℕ) → total (references_at (book_of after.refs) at)
        ≡ turned_by telling w at + many (names_of a.owner a.names) at
        + (many a.roots at + beside_many a (turned_by telling w) at)
    total_then at = total-is a (book_of after.refs) (turned_by telling w) (foreign_then telling foreign) counts_then at

    some_then : (at : ℕ) → 0 < turned_by telling w at → 0 < total (references_in (book_of after.refs at))
    some_then at some = let all = total_then at in omega (arith, all, some)

    some_before : (at : ℕ) → 0 < w at → 0 < total (references_in (book_of before.refs at))
    some_before at some =
        let all = total-is a (book_of before.refs) w foreign stands.counts at in
        omega (arith, all, some)

    lasting_then : (at : ℕ) → Lasts a at → 0 < total (references_in (book_of after.refs at))
    lasting_then at lasts =
        lasting after (turned_by telling w) (foreign_then telling foreign) counts_then down_then reached_then at lasts

    lasting_before : (at : ℕ) → Lasts a at → 0 < total (references_in (book_of before.refs at))
    lasting_before at lasts =
        lasting before w foreign stands.counts stands.down (reached_first before w foreign stands) at lasts

    -- ---- marks

    abbrev turned : ℕ → Bool
    turned at = turns_full (full_by (turning foreign telling) (turning a.beside telling) (turning_at telling)) at

    -- no other node becomes full than one to which the way is lost
    full_only : (f b : Option Placed) (from at : ℕ) → at ≢ from → turns_full (full_by f b from) at ≡ false
    full_only None None from at differ = refl
    full_only None (Some other) from at differ = elim (eqb_tells at from) [
      | inl (equal, same) ↦ absurd (differ same)
      | inr (unequal, other) ↦ unequal
    ]
    full_only (Some placed) b from at differ = refl

    lost_all : (node : Node) (copy : ℕ) → (0 < w (header_of node).address) × (w copy ≡ 0)
        → turned_by (Copied node copy) w (header_of node).address ≡ 0
    lost_all node copy now =
        let here = one-here (header_of node).address (header_of node).address refl in
        let some = now.0 in
        let apart = one-other copy (header_of node).address (λ (same : (header_of node).address ≡ copy).
        let e = ap w same in
        let none = now.1 in
        omega (arith, e, none, some)) in
        let most = stands.single (header_of node).address in
        omega (arith, here, apart, most)

    not_turned : (t : Telling) (at : ℕ) → IsTimely t w → (0 < turned_by t w at) ⊎ (w at ≡ 0)
        → turns_full (full_by (turning foreign t) (turning a.beside t) (turning_at t)) at ≡ false
    not_turned (Copied node copy) at now (inl some) =
        full_only (foreign (header_of node).address) (a.beside (header_of node).address) (header_of node).address at
        (λ same.
        let none = lost_all node copy now in
        let e = ap (turned_by (Copied node copy) w) same in
        omega (arith, none, e, some))
    not_turned (Copied node copy) at now (inr none) =
        full_only (foreign (header_of node).address) (a.beside (header_of node).address) (header_of node).address at
        (λ same.
        let some = now.0 in
        let e = ap w same in
        omega (arith, none, e, some))
    not_turned (Made address) at now some = refl
    not_turned (Left node) at now some = refl

    marks_then : (q : ℕ) → 0 < turned_by telling w q → full_in (book_of after.refs q)
        ≡ mark_in (foreign_then telling foreign q)
    marks_then q some =
        let mark = kept_mark (book_of before.refs q) (book_of after.refs q) (turned q) (some_then q some)
        (done.full q) ∙ unturned (full_in (book_of before.refs q)) (turned q)
        (not_turned telling q timely (inl some)) in
        elim (came_or_less q (gains telling q) refl) [
          | inl (came, none, most) ↦
              mark
              ∙ ap full_in (nothing_before q came none)
              ∙ sym (ap mark_in (foreign-come telling foreign q came))
          | inr less ↦
              let was : 0 < w q = omega (arith, less, some) in
              mark
              ∙ stands.marks q was
              ∙ sym (ap mark_in (foreign-stays telling foreign w q timely was))
        ]

    -- what stands beside where the way is lost
    mark_of : (f : Option Placed) (placed : Placed) (at : ℕ)
        → ((p : Placed) → f ≡ Some p → placed ≡ p) → (f ≡ None → placed.full ≡ true)
        → (mark_in f || turns_full (full_by f (Some placed) at) at) ≡ placed.full
    mark_of None placed at same full = eq-eqb at at refl ∙ sym (full refl)
    mark_of (Some p) placed at same full = either p.full ∙ sym (ap (λ (o : Placed). o.full) (same p refl)) where
      either : (c : Bool) → (c || false) ≡ c
      either true = refl
      either false = refl

    lost_here : (t : Telling) (q : ℕ) (placed : Placed) → IsTimely t w → IsTrueTo a w t → 0 < w q
        → turned_by t w q ≡ 0
        → a.beside q ≡ Some placed
        → (full_in (book_of before.refs q)
        || turns_full (full_by (turning foreign t) (turning a.beside t) (turning_at t)) q) ≡ placed.full
    lost_here (Copied node copy) q placed now truth some none there =
        elim (lost_only (header_of node).address q (one (header_of node).address q) refl) [
          | inl kept ↦ absurd (omega (arith, kept, some, none))
          | inr same ↦
              subst (λ (r : ℕ). (full_in (book_of before.refs q)
              || turns_full (full_by (foreign r) (a.beside r) r) q) ≡ placed.full) same
              (at_it q placed some there)
        ] where
          at_it : (at : ℕ) (p : Placed) → 0 < w at → a.beside at ≡ Some p
              → (full_in (book_of before.refs at) || turns_full (full_by (foreign at) (a.beside at) at) at) ≡ p.full
          at_it at p led is_there =
              ap (λ (b : Bool). b || turns_full (full_by (foreign at) (a.beside at) at) at) (stands.marks at led)
              ∙ ap (λ (b : Option Placed). mark_in (foreign at) || turns_full (full_by (foreign at) b at) at) is_there
              ∙ mark_of (foreign at) p at (λ other is_foreign. fixed.same at other p
              (stands.within at other is_foreign) is_there)
              (λ bare. (fixed.own at p (reached_first before w foreign stands at p led is_there)
              (sym (stays_first before w foreign stands at p led is_there) ∙ bare) is_there).0)
    lost_here (Made address) q placed now truth some none there = absurd (omega (arith, some, none))
    lost_here (Left node) q placed now truth some none there =
        elim (lost_only (header_of node).address q (one (header_of node).address q) refl) [
          | inl kept ↦ absurd (omega (arith, kept, some, none))
          | inr same ↦
              let alone = (left_alone before w foreign stands (header_of node).address now truth.foreign
              truth.alone).1 in
              let wrong : None ≡ Some placed = sym alone ∙ sym (ap a.beside same) ∙ there in
              absurd cc
        ]

    left_then : (q : ℕ) (placed : Placed) → turned_by telling w q ≡ 0 → a.beside q ≡ Some placed
        → full_in (book_of after.refs q) ≡ placed.full
    left_then q placed none there =
        let mark = kept_mark (book_of before.refs q) (book_of after.refs q) (turned q)
        (lasting_then q (inr (inl (record { placed = placed; is = there })))) (done.full q) in
        elim (zero_or_more (w q)) [
          | inl was ↦
              mark
              ∙ unturned (full_in (book_of before.refs q)) (turned q) (not_turned telling q timely (inr was))
              ∙ stands.left q placed was there
          | inr led ↦ mark ∙ lost_here telling q placed timely is led none there
        ]

    -- ---- what is known

    what_then : (q : ℕ) → 0 < w q → 0 < turned_by telling w q → what_in (book_of after.refs q)
        ≡ what_in (book_of before.refs q)
    what_then q was some =
        kept_same (book_of before.refs q) (book_of after.refs q) (what_comes (coming_of before level telling) q)
        (some_before q was) (some_then q some) (done.known q)

    new_node : (q : ℕ) → 0 < gains telling q → w q ≡ 0 → 0 < turned_by telling w q
        → IsNewNode a.first (what_in (book_of after.refs q))
    new_node q came none some =
        let come = what_come before level telling q came in
        record {
          level = come.level;
          known =
              kept_come (book_of before.refs q) (book_of after.refs q) (what_comes (coming_of before level telling) q)
              (nothing_before q came none) (some_then q some) (done.known q)
              ∙ come.known
              ∙ ap (λ (n : ℕ). Some (record { bytes = n; level = Some come.level; generation = before.next }))
              stands.nodesize
              ∙ ap (λ (n : ℕ). Some (record { bytes = a.first.nodesize; level = Some come.level; generation = n }))
              stands.next;
        }

    stays_then : (q : ℕ) → 0 < turned_by telling w q → Stays a after (foreign_then telling foreign) q
    stays_then q some = elim (came_or_less q (gains telling q) refl) [
      | inl (came, none, most) ↦
          inl (new_node q came none some, foreign-come telling foreign q came, come-alone a telling w q is came)
      | inr less ↦
          let was : 0 < w q = omega (arith, less, some) in
          let known = what_then q was some in
          let same = foreign-stays telling foreign w q timely was in
          elim (stands.stays q was) [
            | inl (young, none, alone) ↦
                inl (record { level = young.level; known = known ∙ young.known }, same ∙ none, alone)
            | inr (way, as_first, as_known) ↦ inr (way, same ∙ as_first, known ∙ as_known)
          ]
    ]

    lasts_then : (at : ℕ) → Lasts a at → what_in (book_of after.refs at) ≡ what_in (book_of a.first.refs at)
    lasts_then at lasts =
        kept_same (book_of before.refs at) (book_of after.refs at) (what_comes (coming_of before level telling) at)
        (lasting_before at lasts) (lasting_then at lasts) (done.known at)
        ∙ stands.lasts at lasts

    pub StandsFor-exchanged : after.tree ≡ before.tree → after.next ≡ before.next → after.nodesize ≡ before.nodesize
        → after.misfit ≡ None
        → StandsFor a IsPlace after (turned_by telling w) (foreign_then telling foreign)
    StandsFor-exchanged tree next nodesize fits = record {
      mine = tree ∙ stands.mine;
      next = next ∙ stands.next;
      nodesize = nodesize ∙ stands.nodesize;
      sound = done.book;
      fits = fits;
      counts = counts_then;
      fitting = fitting_then;
      single = single_then;
      placed = placed_then;
      marks = marks_then;
      within = within_then;
      stays = stays_then;
      down = down_then;
      left = left_then;
      lasts = lasts_then;
    }

  pub StandsFor-step : (before after : TreeRefs) (w : ℕ → ℕ) (foreign : ℕ → Option Placed) (telling : Telling)
      → StandsFor a IsPlace before w foreign → IsTimely telling w → IsBare telling
      → IsTrueTo a w telling → ((q : ℕ) → 0 < gains telling q → IsPlace q) → Step before telling after
      → StandsFor a IsPlace after (turned_by telling w) (foreign_then telling foreign)
  StandsFor-step before after w foreign telling stands timely bare is new step =
      let none : step.misfit ≡ None = step.proper (proper before w foreign stands telling timely bare is new) in
      let done = subst (λ (exchange : Exchange). Exchanges (book_of before.refs) (book_of after.refs) exchange
      (coming_of before step.level telling)) (exchange-is before w foreign stands telling timely bare is)
      (step.done none) in
      let noted : after.misfit ≡ option_or before.misfit step.misfit = ap (λ (book : TreeRefs). book.misfit)
      step.noted in
      StandsFor-exchanged before after w foreign stands telling timely is new step.level done
      (ap (λ (book : TreeRefs). book.tree) step.noted) (ap (λ (book : TreeRefs). book.next) step.noted)
      (ap (λ (book : TreeRefs). book.nodesize) step.noted) (noted ∙ none_or_none before.misfit step.misfit stands.fits
      none)

  -- what a list of tellings makes of it
  pub StandsFor-followed : (tellings : List Telling) (before after : TreeRefs) (w v : ℕ → ℕ)
      (foreign : ℕ → Option Placed)
      → StandsFor a IsPlace before w foreign → Turns w tellings v
      → All IsBare tellings
      → AreTrueTo a w tellings → ((q : ℕ) → 0 < sum_by (λ telling. gains telling q) tellings → IsPlace q)
      → Follows before tellings after
      → (left : ℕ → Option Placed) × StandsFor a IsPlace after v left
  unfolding Follows
  StandsFor-followed [] before after w v foreign stands turns bare truth new follows = (
    foreign,
    StandsFor-same after w v foreign turns
        (subst (λ (book : TreeRefs). StandsFor a IsPlace book w foreign) (sym follows) stands),
  )
  StandsFor-followed (telling ∷ tellings) before after w v foreign stands turns bare truth new follows =
      let sum = λ (q : ℕ). sum_by-cons (λ (t : Telling). gains t q) telling tellings in
      let one_bare : IsBare telling = bare 0 telling (omega arith) in
      let one_new = λ (q : ℕ) (some : 0 < gains telling q). new q (let s = sum q in omega (arith, s, some)) in
      let step = StandsFor-step before follows.0 w foreign telling stands turns.0 one_bare truth.0 one_new follows.1 in
      StandsFor-followed tellings follows.0 after (turned_by telling w) v (foreign_then telling foreign) step turns.1
      (λ i d inside. bare (suc i) d (omega (arith, inside))) truth.1
      (λ q some. new q (let s = sum q in omega (arith, s, some))) follows.2

-- ---- what stays whatever is told

pub record StaysBook (before after : TreeRefs) : Type 0 where
  pub tree : after.tree ≡ before.tree
  pub next : after.next ≡ before.next
  pub nodesize : after.nodesize ≡ before.nodesize

pub StaysBook-followed : (tellings : List Telling) (before after : TreeRefs) → Follows before tellings after
    → StaysBook before after
unfolding Follows
StaysBook-followed [] before after follows = record {
  tree = ap (λ (book : TreeRefs). book.tree) follows;
  next = ap (λ (book : TreeRefs). book.next) follows;
  nodesize = ap (λ (book : TreeRefs). book.nodesize) follows;
}
StaysBook-followed (telling ∷ tellings) before after follows =
    let noted = follows.1.noted in
    let rest = StaysBook-followed tellings follows.0 after follows.2 in
    record {
      tree = rest.tree ∙ ap (λ (book : TreeRefs). book.tree) noted;
      next = rest.next ∙ ap (λ (book : TreeRefs). book.next) noted;
      nodesize = rest.nodesize ∙ ap (λ (book : TreeRefs). book.nodesize) noted;
    }
