-- A node of a tree that was judged, and is owned.
use Rattle.std.proofs.Common.{◌≡◌, ℕ, List, refl, sym, ap, subst, ◌∙◌, inl, inr}
use Rattle.std.specs.Prelude.{Option, Some, None, Result, Ok, Err, IfOk, IsSome, OnOk, is_some}
use Rattle.std.proofs.lemmas.Bool.{true≢false}
use Rattle.qg_device.specs.History.{Event, History, Recorded, Unrecorded, content}
use Rattle.qg_num.specs.declared.fault.BlockFault.{BlockFault}
use Rattle.qg_num.specs.declared.fault.BlockFault.TheVariants.{NoMemory, Disk, Image}
use Rattle.qg_node.specs.declared.node.Node.{Node}
use Rattle.qg_super.specs.declared.sizes.Sizes.{Sizes}
use Rattle.qg_image.specs.declared.expected.Expected.{Expected}
use Rattle.qg_image.specs.declared.tree.TreeKind.{TreeKind}
use Rattle.qg_blocks.specs.NodesInMemory.{Draft, Held}
use Rattle.qg_blocks.specs.Standing.{standing}
use Rattle.qg_blocks.specs.NodesFound.{Answers, BreaksNone, IsNodeAt, found, fresh_at, fresh_or, told, told_or}
use Rattle.qg_blocks.proofs.Telling.{fresh-held}
use Rattle.qg_space.specs.Holding.{Holding, is_free_slot}
use Rattle.qg_node_alloc.specs.declared.ground.Ground.{Ground}
use Rattle.qg_node_alloc.specs.Changes.{Copies, Owned, Takes}
use Rattle.qg_node_alloc.specs.Land.{IsDrafted}
use Rattle.qg_node_alloc.proofs.Lands.{IsSome-is}
use Rattle.qg_tree_read.specs.Tree.{Root, super_of}
use Rattle.qg_tree_read.specs.Way.{IsVisited}
use Rattle.qg_tree_edits.specs.Editing.{IsOwned}
use Rattle.qg_tree_edits.proofs.Placed.{KeepsFresh-put}

some_or : (o : Option Node) (P : Type 0) → ((node : Node) → o ≡ Some node → P) → (o ≡ None → P) → P
some_or None P some none = none refl
some_or (Some node) P some none = some node refl

-- ---- what is left of it

-- a fresh node is the one that was judged, and it stays where it is
owned_kept : (tree : TreeKind) (root : Root) (old new : Ground) (history : History) (expected : Expected)
    (at now : ℕ) (held : Held) (node : Node)
    → IsVisited tree (super_of root old.blocks.draft) expected old.blocks.draft history held at
    → IsDrafted old root.next → held.draft ≡ old.blocks.draft
    → fresh_at old.blocks.draft at ≡ Some node → now ≡ at → new ≡ record old { blocks = held }
    → IsOwned tree root old new history expected at now
owned_kept tree root old new history expected at now held node visited drafted draft here same is =
    let drafts : new.blocks.draft ≡ old.blocks.draft = ap (λ (g : Ground). g.blocks.draft) is ∙ draft in
    let space : new.space ≡ old.space = ap (λ (g : Ground). g.space) is in
    let one : visited.node ≡ node = fresh-held held at node visited.node (ap (λ (d : Draft). fresh_at d at) draft
    ∙ here) visited.is in
    record {
      node = visited.node;
      formed = visited.formed;
      kept = subst (λ (n : ℕ). IsNodeAt n at visited.node) drafted.sizes.nodesize visited.kept;
      alone = visited.alone;
      mine = node;
      here = ap (λ (a : ℕ). fresh_at new.blocks.draft a) same ∙ ap (λ (d : Draft). fresh_at d at) drafts ∙ here;
      same = inl (sym one, same, space);
      others = λ h q other. ap (λ (d : Draft). told d h q) drafts;
      keeps = λ q n there. ap (λ (d : Draft). fresh_at d q) drafts ∙ there;
      stays = λ some. same;
      freed = λ q free. inl (sym (ap (λ (h : Holding). is_free_slot h q) space) ∙ free);
    }

-- any other is copied
owned_copied : (tree : TreeKind) (root : Root) (old new : Ground) (history later : History)
    (expected : Expected) (at now : ℕ) (held : Held)
    → IsVisited tree (super_of root old.blocks.draft) expected old.blocks.draft history held at
    → IsDrafted old root.next → IsDrafted (record old { blocks = held }) root.next
    → held.draft ≡ old.blocks.draft → fresh_at old.blocks.draft at ≡ None
    → Copies (record old { blocks = held }) new later at now root.owner root.next
    → Takes 1 (λ q. q ≡ at) (record old { blocks = held }) new
    → IsOwned tree root old new history expected at now
owned_copied tree root old new history later expected at now held visited drafted after draft clean copies takes =
    let mid : Ground = record old { blocks = held } in
    record {
      node = visited.node;
      formed = visited.formed;
      kept = subst (λ (n : ℕ). IsNodeAt n at visited.node) drafted.sizes.nodesize visited.kept;
      alone = visited.alone;
      mine = copies.copy;
      here = copies.puts.here;
      same = inr (copies.lent visited.node visited.is, copies.puts.free);
      others = λ h q other. copies.puts.others h q other ∙ ap (λ (d : Draft). told d h q) draft;
      keeps = λ q n there. KeepsFresh-put mid new root.next now copies.copy after copies.puts q n
          (ap (λ (d : Draft). fresh_at d q) draft ∙ there);
      stays = λ some. absurd (true≢false (sym some ∙ ap is_some clean));
      freed = takes.less;
    }

-- either way it is owned
pub IsOwned-visited : (tree : TreeKind) (root : Root) (old new : Ground) (history later : History)
    (expected : Expected) (at : ℕ) (held : Held) (result : Result ℕ BlockFault)
    → IsVisited tree (super_of root old.blocks.draft) expected old.blocks.draft history held at
    → IsDrafted old root.next → IsDrafted (record old { blocks = held }) root.next
    → held.draft ≡ old.blocks.draft
    → IfOk result (λ now. Owned (record old { blocks = held }) new later at now root.owner root.next)
    → OnOk result (Takes 1 (λ q. q ≡ at) (record old { blocks = held }) new)
    → IfOk result (λ now. IsOwned tree root old new history expected at now)
IsOwned-visited tree root old new history later expected at held (Err fault) visited drafted after draft owned takes =
    tt
IsOwned-visited tree root old new history later expected at held (Ok now) visited drafted after draft owned takes =
    some_or (fresh_at held.draft at) (IsOwned tree root old new history expected at now)
    (λ node here.
    let both = owned.kept (IsSome-is (fresh_at held.draft at) node here) in
    owned_kept tree root old new history expected at now held node visited drafted draft
    (sym (ap (λ (d : Draft). fresh_at d at) draft) ∙ here) both.0 both.1)
    (λ none. owned_copied tree root old new history later expected at now held visited drafted after draft
    (sym (ap (λ (d : Draft). fresh_at d at) draft) ∙ none) (owned.copied none) takes)

-- ---- what is answered

unbroken : (result : Result ℕ BlockFault) (fresh : Option Node) (sizes : Sizes) (history : History) (at : ℕ)
    (node : Node) → (IsSome fresh → result ≡ Ok at)
    → ((events : List Event) → history ≡ Recorded events
    → Answers result at (fresh_or fresh (standing sizes (content events) at)))
    → told_or fresh sizes history at ≡ Some node → BreaksNone result
unbroken (Ok now) fresh sizes history at node same answers is = tt
unbroken (Err NoMemory) fresh sizes history at node same answers is = tt
unbroken (Err Disk) fresh sizes history at node same answers is = tt
unbroken (Err (Image rule address)) (Some n) sizes history at node same answers is = let no = same refl in cc
unbroken (Err (Image rule address)) None sizes (Unrecorded changes) at node same answers is = cc
unbroken (Err (Image rule address)) None sizes (Recorded events) at node same answers is = let there =
    (answers events refl).1 in let is' = rw there at is in cc

-- no rule is broken where a node is told: a fresh one is owned as it is, and any other is found
pub owned-unbroken : (result : Result ℕ BlockFault) (draft old : Draft) (history before : History) (at : ℕ)
    (node : Node) → draft ≡ old → history ≡ before
    → (IsSome (fresh_at draft at) → result ≡ Ok at)
    → ((events : List Event) → history ≡ Recorded events → Answers result at (found draft (content events) at))
    → told old before at ≡ Some node → BreaksNone result
unfolding told
owned-unbroken result draft old history before at node draft_is is same answers there =
    unbroken result (fresh_at draft at) draft.sizes history at node same answers
    (ap (λ (d : Draft). told d history at) draft_is ∙ ap (λ (h : History). told old h at) is ∙ there)
