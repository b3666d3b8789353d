-- Who owns the fresh nodes after calls on one node.
use Rattle.std.proofs.Common.{◌≡◌, ◌≢◌, ℕ, List, refl, sym, ap, subst, ◌∙◌, inl, inr}
use Rattle.std.specs.Prelude.{Option, Some, None}
use Rattle.std.proofs.lemmas.Bool.Decides.{eqb_tells}
use Rattle.qg_device.specs.History.{History, Unrecorded}
use Rattle.qg_node.specs.declared.node.Node.{Node}
use Rattle.qg_node.specs.declared.node.Node.TheVariants.{Leaf, Inner}
use Rattle.qg_node.specs.Nodes.{header_of}
use Rattle.qg_blocks.specs.NodesInMemory.{Draft}
use Rattle.qg_blocks.specs.NodesFound.{fresh_at}
use Rattle.qg_node_alloc.specs.declared.ground.Ground.{Ground}
use Rattle.qg_node_alloc.specs.Tellings.{LetsGo}
use Rattle.qg_node_alloc.specs.Changes.{HasOwner, IsOwnedBy, Makes, Owned, Puts, node_at}
use Rattle.qg_node_alloc.proofs.Lands.{IsSome-is, fresh_at-told}

-- ---- calls added up

-- the owner that the fresh node at an address had
has_owner-after : (owner : ℕ) (old mid : Ground) (at : ℕ) (node : Node) → IsOwnedBy owner old mid
    → HasOwner owner mid at node → HasOwner owner old at node
has_owner-after owner old mid at node first (inl own) = inl own
has_owner-after owner old mid at node first (inr (was, there, same)) = elim (first.each at was there) [
  | inl own ↦ inl (sym same ∙ own)
  | inr before ↦ inr (before.0, before.1, before.2 ∙ same)
]

pub IsOwnedBy-after : (owner : ℕ) (old mid new : Ground) → IsOwnedBy owner old mid → IsOwnedBy owner mid new
    → IsOwnedBy owner old new
IsOwnedBy-after owner old mid new first second = record {
  each = λ at node there. has_owner-after owner old mid at node first (second.each at node there);
}

-- fresh nodes are as they were
pub IsOwnedBy-draft : (owner : ℕ) (old new : Ground) → new.blocks.draft ≡ old.blocks.draft → IsOwnedBy owner old new
IsOwnedBy-draft owner old new draft = record {
  each = λ at node there. inr (node, sym (ap (λ (d : Draft). fresh_at d at) draft) ∙ there, refl);
}

-- ---- one node

same_owner : (owner : ℕ) (land : Ground) (at now : ℕ) (other node : Node) → at ≡ now → other ≡ node
    → HasOwner owner land now node → HasOwner owner land at other
same_owner owner land at now other node there is own =
    subst (λ (a : ℕ). HasOwner owner land a other) (sym there)
    (subst (λ (n : Node). HasOwner owner land now n) (sym is) own)

-- one is fresh at an address, and the others are as they were
pub IsOwnedBy-one : (owner : ℕ) (old mid new : Ground) (now : ℕ) (node : Node) → IsOwnedBy owner old mid
    → fresh_at new.blocks.draft now ≡ Some node
    → ((at : ℕ) → at ≢ now → fresh_at new.blocks.draft at ≡ fresh_at mid.blocks.draft at) → HasOwner owner old now node
    → IsOwnedBy owner old new
IsOwnedBy-one owner old mid new now node first here others own = record {
  each = λ at other there. elim (eqb_tells at now) [
    | inl (equal, same) ↦
        let that : Some other ≡ Some node = sym there ∙ ap (λ (a : ℕ). fresh_at new.blocks.draft a) same ∙ here in
        let one : other ≡ node = cc in
        same_owner owner old at now other node same one own
    | inr (unequal, differ) ↦ first.each at other (sym (others at differ) ∙ there)
  ];
}

-- one is put
pub IsOwnedBy-put : (owner : ℕ) (old mid new : Ground) (now : ℕ) (node : Node) → IsOwnedBy owner old mid
    → Puts mid new now node → HasOwner owner old now node
    → IsOwnedBy owner old new
IsOwnedBy-put owner old mid new now node first puts own =
    IsOwnedBy-one owner old mid new now node first puts.here
    (λ at other. fresh_at-told mid.blocks.draft new.blocks.draft at (puts.others (Unrecorded 0) at other)) own

node_at-owner : (node : Node) (address : ℕ) → (header_of (node_at address node)).owner ≡ (header_of node).owner
node_at-owner (Leaf header items) address = refl
node_at-owner (Inner header pointers) address = refl

moved_owner : (owner : ℕ) (land : Ground) (now : ℕ) (node : Node) → HasOwner owner land now node
    → HasOwner owner land now (node_at now node)
moved_owner owner land now node (inl own) = inl (node_at-owner node now ∙ own)
moved_owner owner land now node (inr (was, there, same)) = inr (was, there, same ∙ sym (node_at-owner node now))

-- one is made
pub IsOwnedBy-made : (owner : ℕ) (old mid new : Ground) (now : ℕ) (node : Node) → IsOwnedBy owner old mid
    → Makes mid new now node → HasOwner owner old now node
    → IsOwnedBy owner old new
IsOwnedBy-made owner old mid new now node first makes own =
    IsOwnedBy-put owner old mid new now (node_at now node) first makes.puts (moved_owner owner old now node own)

owned_there : (old new : Ground) (history : History) (at now owner generation : ℕ) (o : Option Node)
    → fresh_at old.blocks.draft at ≡ o
    → Owned old new history at now owner generation → IsOwnedBy owner old new
owned_there old new history at now owner generation None is owned =
    let copies = owned.copied is in
    IsOwnedBy-put owner old old new now copies.copy (IsOwnedBy-draft owner old old refl) copies.puts (inl copies.owned)
owned_there old new history at now owner generation (Some node) is owned =
    IsOwnedBy-draft owner old new
    (ap (λ (g : Ground). g.blocks.draft) (owned.kept (IsSome-is (fresh_at old.blocks.draft at) node is)).1)

-- one is owned
pub IsOwnedBy-owned : (old new : Ground) (history : History) (at now owner generation : ℕ)
    → Owned old new history at now owner generation
    → IsOwnedBy owner old new
IsOwnedBy-owned old new history at now owner generation owned =
    owned_there old new history at now owner generation (fresh_at old.blocks.draft at) refl owned

-- one is left
pub IsOwnedBy-left : (owner : ℕ) (old new : Ground) (at : ℕ) → LetsGo old new at → IsOwnedBy owner old new
IsOwnedBy-left owner old new at left = record {
  each = λ q node there. elim (eqb_tells q at) [
    | inl (equal, same) ↦
        let here : fresh_at new.blocks.draft at ≡ Some node = sym (ap (λ (a : ℕ). fresh_at new.blocks.draft a) same)
        ∙ there in
        elim left.here [
          | inl kept ↦ let was : fresh_at old.blocks.draft at ≡ Some node = sym kept ∙ here in
              inr (node, ap (λ (a : ℕ). fresh_at old.blocks.draft a) same ∙ was, refl)
          | inr none ↦ let no : Some node ≡ None = sym here ∙ none in absurd cc
        ]
    | inr (unequal, differ) ↦
        inr (
          node,
          sym (fresh_at-told old.blocks.draft new.blocks.draft q (left.others (Unrecorded 0) q differ))
              ∙ there,
          refl,
        )
  ];
}
