-- Two fresh neighbours that are joined.
use Rattle.std.proofs.Common.{◌≡◌, ◌≢◌, ◌⊎◌, ℕ, Bool, true, false, List, [], ◌∷◌, refl, sym, ap, subst, ◌∙◌}
use Rattle.std.specs.Prelude.{Some, None, Result, Ok, Err, IsSome, IfOk}
use Rattle.std.specs.Result.{OnErr}
use Rattle.std.specs.Ordering.{nat_cmp}
use Rattle.std.specs.BTreeMap.{is_at}
use Rattle.std.specs.Map.{set_value}
use Rattle.qg_device.specs.History.{Unrecorded}
use Rattle.qg_num.specs.declared.fault.BlockFault.{BlockFault}
use Rattle.qg_num.specs.declared.fault.BlockFault.TheVariants.{NoMemory, Disk, Image}
use Rattle.qg_node.specs.declared.node.Node.{Node}
use Rattle.qg_node.specs.Nodes.{header_of}
use Rattle.qg_node.specs.NodeText.{IsNode, IsNodeSize}
use Rattle.qg_shape.specs.declared.joining.Joined.{Joined}
use Rattle.qg_shape.specs.declared.joining.Joined.TheVariants.{Whole, Parted}
use Rattle.qg_shape.specs.Filled.{HasShortBodies, IsThin}
use Rattle.qg_shape.specs.Outcomes.{IsJoined}
use Rattle.qg_blocks.specs.NodesFound.{BreaksNone, fresh_at}
use Rattle.qg_blocks.proofs.Telling.{is_at-other, same_by}
use Rattle.qg_edit.specs.Answering.{AnswersBy, CanMerge, IsBrokenByMerge}
use Rattle.qg_edit.specs.Outcome.{AreNodesAfter, IsInFront, IsNodeFor, cleared}
use Rattle.qg_edit.proofs.Leaves.{IsNodeFor-cleared, IsNodeFor-itself}
use Rattle.qg_node_alloc.specs.declared.ground.Ground.{Ground}
use Rattle.qg_node_alloc.proofs.Lands.{IsSome-is, fresh_at-told}
use Rattle.qg_node_alloc.proofs.Editing.{edited, edited-here, edited-others}
use Rattle.qg_tree_edits.specs.Editing.{ArePair, AreRewritten, IsJoinedAs, IsJoinedThere}
use Rattle.qg_tree_edits.specs.Failing.{ArentJoined, NamesOnly}
use Rattle.qg_tree_edits.proofs.Rewritten.{same_node}

-- ---- a fresh node is written to twice, and another one in between

set_again : {K X : Type 0} (p : K → Bool) (es : List (K × X)) (x w : X)
    → set_value p (set_value p es x) w ≡ set_value p es w
set_again p [] x w = refl
set_again p (e ∷ es) x w =
    (elim (p e.0) as (λ b. p e.0 ≡ b → set_value p (set_value p (e ∷ es) x) w ≡ set_value p (e ∷ es) w) [
      | true ↦ λ is. simp is
      | false ↦ λ is. simp (is, set_again p es x w)
    ]) refl

set_between : {K X : Type 0} (p q : K → Bool) (es : List (K × X)) (x v w : X) → ((k : K) → p k ≡ true → q k ≡ false)
    → set_value p (set_value q (set_value p es x) v) w ≡ set_value q (set_value p es w) v
set_between p q [] x v w apart = refl
set_between p q (e ∷ es) x v w apart =
    (elim (p e.0) as (λ b. p e.0 ≡ b → set_value p (set_value q (set_value p (e ∷ es) x) v) w ≡ set_value q
    (set_value p (e ∷ es) w) v) [
      | true ↦ λ is. let not = apart e.0 is in simp (is, not)
      | false ↦ λ is. (elim (q e.0) as (λ b. q e.0 ≡ b → set_value p (set_value q (set_value p (e ∷ es) x) v) w
          ≡ set_value q (set_value p (e ∷ es) w) v) [
            | true ↦ λ other. simp (is, other, set_again p es x w)
            | false ↦ λ other. simp (is, other, set_between p q es x v w apart)
          ]) refl
    ]) refl

edited_between : (land : Ground) (left right : ℕ) (x v w : Node) → left ≢ right
    → edited (edited (edited land right x) left v) right w ≡ edited (edited land right w) left v
edited_between land left right x v w differ =
    ap (λ (es : List (ℕ × Node)).
    record land { blocks = record land.blocks { draft = record land.blocks.draft { fresh = es } } })
    (set_between (is_at (nat_cmp right)) (is_at (nat_cmp left)) land.blocks.draft.fresh x v w
    (λ k is. let same : right ≡ k = same_by right k (nat_cmp right k) refl is in
    is_at-other left k (λ other. differ (sym other ∙ sym same))))

-- elsewhere the same is fresh
fresh_other : (land : Ground) (at : ℕ) (node old : Node) (other : ℕ) → fresh_at land.blocks.draft at ≡ Some old
    → other ≢ at
    → fresh_at (edited land at node).blocks.draft other ≡ fresh_at land.blocks.draft other
fresh_other land at node old other is differ =
    fresh_at-told land.blocks.draft (edited land at node).blocks.draft other
    (edited-others land at node (Unrecorded 0) other (IsSome-is (fresh_at land.blocks.draft at) old is) differ)

fresh_here : (land : Ground) (at : ℕ) (node old : Node) → fresh_at land.blocks.draft at ≡ Some old
    → fresh_at (edited land at node).blocks.draft at ≡ Some node
fresh_here land at node old is = edited-here land at node (IsSome-is (fresh_at land.blocks.draft at) old is)

-- ---- the pair, and an empty leaf in the place of the right one

-- these are the two, which can be joined, and nothing but the empty leaf is changed yet
pub record AreTaken (land taken : Ground) (left right nodesize : ℕ) (a b : Node) : Type 0 where
  pub differ : left ≢ right
  pub left_here : fresh_at land.blocks.draft left ≡ Some a
  pub right_here : fresh_at land.blocks.draft right ≡ Some b
  pub is : taken ≡ edited land right (cleared b)
  pub served : nodesize ≡ land.space.sizes.nodesize
  pub size : IsNodeSize nodesize
  pub left_sound : IsNode nodesize a
  pub right_sound : IsNode nodesize b
  pub level : (header_of a).level ≡ (header_of b).level
  pub thin : IsThin nodesize a ⊎ IsThin nodesize b

-- the left one is still there
taken_left : (land taken : Ground) (left right : ℕ) (b : Node) → left ≢ right
    → fresh_at land.blocks.draft right ≡ Some b → taken ≡ edited land right (cleared b)
    → fresh_at taken.blocks.draft left ≡ fresh_at land.blocks.draft left
taken_left land taken left right b differ here is = ap (λ (g : Ground). fresh_at g.blocks.draft left) is
    ∙ fresh_other land right (cleared b) b left here differ

pub taken-left : (land taken : Ground) (left right : ℕ) (b : Node) → left ≢ right → ArePair land left right
    → fresh_at land.blocks.draft right ≡ Some b → taken ≡ edited land right (cleared b)
    → IsSome (fresh_at taken.blocks.draft left)
taken-left land taken left right b differ pair here is =
    IsSome-is (fresh_at taken.blocks.draft left) pair.a (taken_left land taken left right b differ here is
    ∙ pair.left_here)

-- the two can be joined
pub AreTaken-pair : (land taken : Ground) (left right nodesize : ℕ) (a b : Node) → left ≢ right
    → ArePair land left right → nodesize ≡ land.blocks.draft.sizes.nodesize
    → fresh_at land.blocks.draft right ≡ Some b → taken ≡ edited land right (cleared b)
    → fresh_at taken.blocks.draft left ≡ Some a → AreTaken land taken left right nodesize a b
AreTaken-pair land taken left right nodesize a b differ pair size right_here is left_here =
    let here = sym (taken_left land taken left right b differ right_here is) ∙ left_here in
    let served : nodesize ≡ land.space.sizes.nodesize = size ∙ pair.nodesize in
    let one : pair.a ≡ a = same_node (fresh_at land.blocks.draft left) pair.a a pair.left_here here in
    let other : pair.b ≡ b = same_node (fresh_at land.blocks.draft right) pair.b b pair.right_here right_here in
    let At = λ (n : ℕ) (x y : Node). IsNodeSize n × IsNode n x × IsNode n y
    × ((header_of x).level ≡ (header_of y).level) × (IsThin n x ⊎ IsThin n y) in
    let was : At land.space.sizes.nodesize pair.a pair.b =
    (pair.size, pair.left_sound, pair.right_sound, pair.level, pair.thin) in
    let now : At nodesize a b =
    subst (λ (n : ℕ). At n a b) (sym served) (subst (λ (x : Node). At land.space.sizes.nodesize x b) one
    (subst (λ (y : Node). At land.space.sizes.nodesize pair.a y) other was)) in
    record {
      differ = differ;
      left_here = here;
      right_here = right_here;
      is = is;
      served = served;
      size = now.0;
      left_sound = now.1;
      right_sound = now.2;
      level = now.3;
      thin = now.4;
    }

-- ---- what is left of both

whole_rewritten : (land : Ground) (left right : ℕ) (a b l : Node) → fresh_at land.blocks.draft left ≡ Some a
    → fresh_at land.blocks.draft right ≡ Some b → IsNodeSize land.space.sizes.nodesize
    → IsNodeFor land.space.sizes.nodesize a l
    → AreRewritten land (edited (edited land right (cleared b)) left l) left right
whole_rewritten land left right a b l here there size named = record {
  mid = edited land right (cleared b);
  first = λ node is. record {
    node = cleared b;
    is = refl;
    named = subst (λ (n : Node). IsNodeFor land.space.sizes.nodesize n (cleared b))
        (same_node (fresh_at land.blocks.draft right) b node there is)
        (IsNodeFor-cleared land.space.sizes.nodesize b size);
  };
  later = λ node is. record {
    node = l;
    is = refl;
    named = subst (λ (n : Node). IsNodeFor land.space.sizes.nodesize n l)
        (same_node (fresh_at land.blocks.draft left) a node here is) named;
  };
}

both_rewritten : (land : Ground) (left right : ℕ) (a b l r : Node) → left ≢ right
    → fresh_at land.blocks.draft left ≡ Some a → fresh_at land.blocks.draft right ≡ Some b
    → IsNodeFor land.space.sizes.nodesize a l → IsNodeFor land.space.sizes.nodesize b r
    → AreRewritten land (edited (edited (edited land right (cleared b)) left l) right r) left right
both_rewritten land left right a b l r differ here there named named' = record {
  mid = edited land right r;
  first = λ node is. record {
    node = r;
    is = refl;
    named = subst (λ (n : Node). IsNodeFor land.space.sizes.nodesize n r)
        (same_node (fresh_at land.blocks.draft right) b node there is) named';
  };
  later = λ node is. record {
    node = l;
    is = edited_between land left right (cleared b) l r differ;
    named = subst (λ (n : Node). IsNodeFor land.space.sizes.nodesize n l)
        (same_node (fresh_at land.blocks.draft left) a node here is) named;
  };
}

of_result : (P : Joined → Type 0) (joined : Joined) (result : Result Joined BlockFault) → result ≡ Ok joined
    → IfOk result P → P joined
of_result P joined result is there = subst (λ (x : Result Joined BlockFault). IfOk x P) is there

-- all is in the left one
pub AreRewritten-whole : (land taken : Ground) (left right nodesize : ℕ) (a b l r : Node)
    (result : Result Joined BlockFault) → AreTaken land taken left right nodesize a b → result ≡ Ok Whole
    → IfOk result (AreNodesAfter nodesize a b l r) → AreRewritten land (edited taken left l) left right
AreRewritten-whole land taken left right nodesize a b l r result pair is nodes =
    let named : IsNodeFor nodesize a l = of_result (AreNodesAfter nodesize a b l r) Whole result is nodes in
    subst (λ (g : Ground). AreRewritten land (edited g left l) left right) (sym pair.is)
    (whole_rewritten land left right a b l pair.left_here pair.right_here (subst IsNodeSize pair.served pair.size)
    (subst (λ (n : ℕ). IsNodeFor n a l) pair.served named))

-- both share anew, or are as they were
AreRewritten-both : (land taken : Ground) (left right nodesize : ℕ) (a b l r : Node)
    → AreTaken land taken left right nodesize a b → IsNodeFor nodesize a l → IsNodeFor nodesize b r
    → AreRewritten land (edited (edited taken left l) right r) left right
AreRewritten-both land taken left right nodesize a b l r pair named other =
    subst (λ (g : Ground). AreRewritten land (edited (edited g left l) right r) left right) (sym pair.is)
    (both_rewritten land left right a b l r pair.differ pair.left_here pair.right_here
    (subst (λ (n : ℕ). IsNodeFor n a l) pair.served named) (subst (λ (n : ℕ). IsNodeFor n b r) pair.served other))

pub AreRewritten-parted : (land taken : Ground) (left right nodesize : ℕ) (a b l r : Node)
    (result : Result Joined BlockFault) → AreTaken land taken left right nodesize a b → result ≡ Ok Parted
    → IfOk result (AreNodesAfter nodesize a b l r) → AreRewritten land (edited (edited taken left l) right r) left right
AreRewritten-parted land taken left right nodesize a b l r result pair is nodes =
    let named : IsNodeFor nodesize a l × IsNodeFor nodesize b r =
    of_result (AreNodesAfter nodesize a b l r) Parted result is nodes in
    AreRewritten-both land taken left right nodesize a b l r pair named.0 named.1

pub AreRewritten-err : (land taken : Ground) (left right nodesize : ℕ) (a b l r : Node) (fault : BlockFault)
    (result : Result Joined BlockFault) → AreTaken land taken left right nodesize a b
    → result ≡ Err fault → OnErr result (l ≡ a) → OnErr result (r ≡ b)
    → AreRewritten land (edited (edited taken left l) right r) left right
AreRewritten-err land taken left right nodesize a b l r fault result pair is left_same right_same =
    let same : l ≡ a = subst (λ (x : Result Joined BlockFault). OnErr x (l ≡ a)) is left_same in
    let same' : r ≡ b = subst (λ (x : Result Joined BlockFault). OnErr x (r ≡ b)) is right_same in
    AreRewritten-both land taken left right nodesize a b l r pair
    (subst (λ (n : Node). IsNodeFor nodesize a n) (sym same) (IsNodeFor-itself nodesize a pair.left_sound))
    (subst (λ (n : Node). IsNodeFor nodesize b n) (sym same') (IsNodeFor-itself nodesize b pair.right_sound))

-- ---- how they are joined

to_result : (P : Joined → Type 0) (joined : Joined) (result : Result Joined BlockFault) → result ≡ Ok joined → P joined
    → IfOk result P
to_result P joined result is there = subst (λ (x : Result Joined BlockFault). IfOk x P) (sym is) there

joined_of : (land : Ground) (left right nodesize : ℕ) (a b l r : Node) (joined : Joined)
    → fresh_at land.blocks.draft left ≡ Some a → fresh_at land.blocks.draft right ≡ Some b
    → nodesize ≡ land.space.sizes.nodesize → IsJoinedAs nodesize a b l r joined
    → (c d : Node) → fresh_at land.blocks.draft left ≡ Some c → fresh_at land.blocks.draft right ≡ Some d
    → IsJoinedAs land.space.sizes.nodesize c d l r joined
joined_of land left right nodesize a b l r joined here there served is c d here' there' =
    subst (λ (n : ℕ). IsJoinedAs n c d l r joined) served
    (subst (λ (x : Node). IsJoinedAs nodesize x d l r joined)
    (same_node (fresh_at land.blocks.draft left) a c here here')
    (subst (λ (y : Node). IsJoinedAs nodesize a y l r joined)
    (same_node (fresh_at land.blocks.draft right) b d there there') is))

there_left : (land taken : Ground) (left right nodesize : ℕ) (a b : Node) → AreTaken land taken left right nodesize a b
    → fresh_at taken.blocks.draft left ≡ Some a
there_left land taken left right nodesize a b pair =
    taken_left land taken left right b pair.differ pair.right_here pair.is ∙ pair.left_here

-- an empty leaf lies in the place of the right one
there_right : (land taken : Ground) (left right nodesize : ℕ) (a b l : Node)
    → AreTaken land taken left right nodesize a b → fresh_at (edited taken left l).blocks.draft right ≡ Some (cleared b)
there_right land taken left right nodesize a b l pair =
    fresh_other taken left l a right (there_left land taken left right nodesize a b pair)
    (λ same. pair.differ (sym same))
    ∙ ap (λ (g : Ground). fresh_at g.blocks.draft right) pair.is ∙ fresh_here land right (cleared b) b pair.right_here

-- and can be written to
pub taken-right : (land taken : Ground) (left right nodesize : ℕ) (a b l : Node)
    → AreTaken land taken left right nodesize a b → IsSome (fresh_at (edited taken left l).blocks.draft right)
taken-right land taken left right nodesize a b l pair = IsSome-is (fresh_at (edited taken left l).blocks.draft right)
    (cleared b) (there_right land taken left right nodesize a b l pair)

pub IsJoinedThere-whole : (land taken : Ground) (left right nodesize : ℕ) (a b l r : Node)
    (result : Result Joined BlockFault) → AreTaken land taken left right nodesize a b → result ≡ Ok Whole
    → IfOk result (IsJoined nodesize a b l r)
    → IfOk result (λ joined. IsJoinedThere land (edited taken left l) left right joined)
IsJoinedThere-whole land taken left right nodesize a b l r result pair is joined =
    let whole = of_result (IsJoined nodesize a b l r) Whole result is joined in
    to_result (λ joined. IsJoinedThere land (edited taken left l) left right joined) Whole result is (record {
      a = l;
      b = cleared b;
      left_there = fresh_here taken left l a (there_left land taken left right nodesize a b pair);
      right_there = there_right land taken left right nodesize a b l pair;
      is = joined_of land left right nodesize a b l (cleared b) Whole pair.left_here pair.right_here pair.served
          (record { all = whole.all; none = refl; fits = whole.fits }, refl);
    })

pub IsJoinedThere-parted : (land taken : Ground) (left right nodesize : ℕ) (a b l r : Node)
    (result : Result Joined BlockFault) → AreTaken land taken left right nodesize a b → result ≡ Ok Parted
    → IfOk result (IsJoined nodesize a b l r)
    → IfOk result (λ joined. IsJoinedThere land (edited (edited taken left l) right r) left right joined)
IsJoinedThere-parted land taken left right nodesize a b l r result pair is joined =
    let parted = of_result (IsJoined nodesize a b l r) Parted result is joined in
    let mid : Ground = edited taken left l in
    let gone = there_right land taken left right nodesize a b l pair in
    to_result (λ joined. IsJoinedThere land (edited (edited taken left l) right r) left right joined) Parted result is
    (record {
      a = l;
      b = r;
      left_there = fresh_other mid right r (cleared b) left gone pair.differ
          ∙ fresh_here taken left l a (there_left land taken left right nodesize a b pair);
      right_there = fresh_here mid right r (cleared b) gone;
      is = joined_of land left right nodesize a b l r Parted pair.left_here pair.right_here pair.served parted;
    })

pub IsJoinedThere-err : (land new : Ground) (left right : ℕ) (fault : BlockFault) (result : Result Joined BlockFault)
    → result ≡ Err fault
    → IfOk result (λ joined. IsJoinedThere land new left right joined)
IsJoinedThere-err land new left right fault result is =
    subst (λ (x : Result Joined BlockFault). IfOk x (λ joined. IsJoinedThere land new left right joined)) (sym is) tt

-- ---- what is answered

-- no rule is broken where the keys of the one are less than those of the other, and bodies are short
pub BreaksNone-joined : (land taken : Ground) (left right nodesize : ℕ) (a b : Node) (result : Result Joined BlockFault)
    → AreTaken land taken left right nodesize a b
    → (IsInFront a b → HasShortBodies a → HasShortBodies b → BreaksNone result) → (c d : Node)
    → fresh_at land.blocks.draft left ≡ Some c → fresh_at land.blocks.draft right ≡ Some d
    → IsInFront c d → HasShortBodies c → HasShortBodies d → BreaksNone result
BreaksNone-joined land taken left right nodesize a b result pair sound c d here there =
    subst (λ (x : Node). IsInFront x d → HasShortBodies x → HasShortBodies d → BreaksNone result)
    (same_node (fresh_at land.blocks.draft left) a c pair.left_here here)
    (subst (λ (y : Node). IsInFront a y → HasShortBodies a → HasShortBodies y → BreaksNone result)
    (same_node (fresh_at land.blocks.draft right) b d pair.right_here there) sound)

-- a rule that is named is broken by the two, which lie there as they did
pub names-joined : (land taken : Ground) (left right nodesize : ℕ) (a b l r : Node) (result : Result Joined BlockFault)
    → AreTaken land taken left right nodesize a b → AnswersBy (CanMerge a b) (IsBrokenByMerge a b) result
    → OnErr result (l ≡ a) → OnErr result (r ≡ b)
    → (c d : Node) → fresh_at land.blocks.draft left ≡ Some c → fresh_at land.blocks.draft right ≡ Some d
    → NamesOnly (ArentJoined (edited (edited taken left l) right r) left right c d) result
names-joined land taken left right nodesize a b l r (Ok joined) pair answers left_same right_same c d here there = tt
names-joined land taken left right nodesize a b l r (Err Disk) pair answers left_same right_same c d here there = tt
names-joined land taken left right nodesize a b l r (Err NoMemory) pair answers left_same right_same c d here there = tt
names-joined land taken left right nodesize a b l r (Err (Image rule at)) pair answers left_same right_same c d here
    there =
    let mid : Ground = edited taken left l in
    let gone = there_right land taken left right nodesize a b l pair in
    let first : a ≡ c = same_node (fresh_at land.blocks.draft left) a c pair.left_here here in
    let second : b ≡ d = same_node (fresh_at land.blocks.draft right) b d pair.right_here there in
    let lies = fresh_here taken left l a (there_left land taken left right nodesize a b pair) in
    record {
      left_here = fresh_other mid right r (cleared b) left gone pair.differ ∙ lies ∙ ap Some (left_same ∙ first);
      right_here = fresh_here mid right r (cleared b) gone ∙ ap Some (right_same ∙ second);
      broken = subst (λ (x : Node). IsBrokenByMerge x d rule at) first
          (subst (λ (y : Node). IsBrokenByMerge a y rule at) second answers);
    }
