use Rattle.std.proofs.Common.{◌≡◌, ◌∷◌, ℕ, inl, inr, length, refl, subst, sym, ap, ◌∙◌}
use Rattle.std.specs.Prelude.{All, Err}
use Rattle.std.specs.List.{AllByRecursion}
use Rattle.std.proofs.lemmas.Bool.{true≢false}
use Rattle.std.specs.List.Sorted.{IsStrictlySortedBy}
use Rattle.std.specs.Ordering.{nat_cmp}
use Rattle.qg_device.specs.History.{Synced}
use Rattle.qg_node.specs.NodeText.{IsNodeSize}
use Rattle.qg_super.specs.declared.superblock.Super.{Super}
use Rattle.qg_super.proofs.Served.{SizesFit-is_served}
use Rattle.qg_commit.specs.Calls.{IsReadBack, IsWritable}
use Rattle.qg_commit.proofs.CommitCalls.{whole-made}
use Rattle.qg_commit.proofs.Fronts.{unsure-whole}
use Rattle.qg_commit.specs.Writing.{fresh_nodes, nodes_written}
use Rattle.qg_commit.proofs.AllNodes.{written-writable}
use Rattle.qg_commit.proofs.Crashing.{leaves_trees, left_alone}
use Rattle.qg_commit.proofs.Laying.{each-slot, listed-IsLaying}
use Rattle.qg_commit.proofs.committing.commit.Goals as goal

pub write_all-requires-clause-size : goal.write_all-requires-clause-size
write_all-requires-clause-size g c =
    let same : c.in_ok-trees.trees.superblock.nodesize ≡ c.args.sizes.nodesize =
    ap (λ (super : Super). super.nodesize) c.in_ok-trees.ensures.trees.leads in
    c.deref_mut.ensures.len ∙ c.in_ok-buffer.ensures.len ∙ sym same

pub write_all-requires-clause-node_size : goal.write_all-requires-clause-node_size
write_all-requires-clause-node_size g c =
    let long : length c.deref_mut.result.now ≡ c.args.sizes.nodesize = c.deref_mut.ensures.len
    ∙ c.in_ok-buffer.ensures.len in
    subst IsNodeSize (sym long) (SizesFit-is_served c.args.sizes c.requires.trees.served).node_size

pub write_all-requires-clause-nodes : goal.write_all-requires-clause-nodes
write_all-requires-clause-nodes g c =
    let sizes = c.args.sizes in
    let told = c.args.told.now in
    let draft = c.args.blocks.now.draft in
    let trees = c.in_ok-trees.trees in
    let long : length c.deref_mut.result.now ≡ sizes.nodesize = c.deref_mut.ensures.len ∙ c.in_ok-buffer.ensures.len in
    let laying = listed-IsLaying sizes c.args.next told c.args.slots.now draft trees c.in_ok-addresses.addresses
    c.in_ok-trees.ensures.superblock c.in_ok-trees.ensures.trees c.in_ok-addresses.ensures.addresses
    c.in_ok-addresses.ensures.ascending in
    let all = written-writable sizes c.args.next told.roots.now told.book.now told.quota.now
    c.args.slots.now
    draft trees laying c.requires.fresh (each-slot sizes c.args.slots.now c.requires.slots) in
    subst (λ (n : ℕ). AllByRecursion (IsWritable n) (nodes_written draft trees)) (sym long) all

pub write_all-requires-clause-addresses : goal.write_all-requires-clause-addresses
write_all-requires-clause-addresses g c = c.as_slice.ensures ∙ c.in_ok-addresses.ensures.addresses

pub write_all-requires-clause-ascending : goal.write_all-requires-clause-ascending
write_all-requires-clause-ascending g c =
    subst (IsStrictlySortedBy nat_cmp) c.in_ok-addresses.ensures.addresses c.in_ok-addresses.ensures.ascending

pub returns-in-Ok-clause-laid : goal.returns-in-Ok-clause-laid
returns-in-Ok-clause-laid g c =
    listed-IsLaying c.args.sizes c.args.next c.args.told.now c.args.slots.now c.args.blocks.now.draft
    c.in_ok-trees.trees
    c.in_ok-addresses.addresses c.in_ok-trees.ensures.superblock c.in_ok-trees.ensures.trees
    c.in_ok-addresses.ensures.addresses c.in_ok-addresses.ensures.ascending

pub returns-in-Ok-clause-read : goal.returns-in-Ok-clause-read
returns-in-Ok-clause-read g c =
    let long : length c.deref_mut.result.now ≡ c.args.sizes.nodesize = c.deref_mut.ensures.len
    ∙ c.in_ok-buffer.ensures.len in
    subst (λ (n : ℕ). All (IsReadBack n) (fresh_nodes c.args.blocks.now.draft)) long c.in-Ok.ensures.read

pub returns-in-Err-Failed-clause-stopped : goal.returns-in-Err-Failed-clause-stopped
returns-in-Err-Failed-clause-stopped g c = λ events told. inr (record {
  trees = c.in_ok-trees.trees;
  is = listed-IsLaying c.args.sizes c.args.next c.args.told.now c.args.slots.now c.args.blocks.now.draft
      c.in_ok-trees.trees c.in_ok-addresses.addresses c.in_ok-trees.ensures.superblock c.in_ok-trees.ensures.trees
      c.in_ok-addresses.ensures.addresses c.in_ok-addresses.ensures.ascending;
  made = c.in-Err-Failed.ensures.front events told;
})

pub returns-clause-stopped : goal.returns-clause-stopped
returns-clause-stopped g c = λ events told. inr (record {
  trees = c.in_ok-trees.trees;
  is = listed-IsLaying c.args.sizes c.args.next c.args.told.now c.args.slots.now c.args.blocks.now.draft
      c.in_ok-trees.trees c.in_ok-addresses.addresses c.in_ok-trees.ensures.superblock c.in_ok-trees.ensures.trees
      c.in_ok-addresses.ensures.addresses c.in_ok-addresses.ensures.ascending;
  made = c.in-Err-NoMemory.ensures.front events told;
})

-- only a disk that takes memory wants it once the calls began
pub returns-clause-memory : goal.returns-clause-memory
returns-clause-memory g c = λ none refused.
    absurd (true≢false (sym (c.in-Err-NoMemory.ensures.memory (ap Err c.in-Err-NoMemory.field-0-is)) ∙ none))

-- ---- crashes

pub returns-in_err-trees-clause-crashes : goal.returns-in_err-trees-clause-crashes
returns-in_err-trees-clause-crashes g c =
    λ before after state told now found. inl (left_alone before after _ _ told refl now)

pub returns-in_err-addresses-clause-crashes : goal.returns-in_err-addresses-clause-crashes
returns-in_err-addresses-clause-crashes g c =
    λ before after state told now found. inl (left_alone before after _ _ told refl now)

pub returns-in_err-buffer-clause-crashes : goal.returns-in_err-buffer-clause-crashes
returns-in_err-buffer-clause-crashes g c =
    λ before after state told now found. inl (left_alone before after _ _ told refl now)

pub returns-in-Ok-clause-crashes : goal.returns-in-Ok-clause-crashes
returns-in-Ok-clause-crashes g c = λ before after state told now found.
    let laying = listed-IsLaying c.args.sizes c.args.next c.args.told.now c.args.slots.now c.args.blocks.now.draft
    c.in_ok-trees.trees c.in_ok-addresses.addresses c.in_ok-trees.ensures.superblock c.in_ok-trees.ensures.trees
    c.in_ok-addresses.ensures.addresses c.in_ok-addresses.ensures.ascending in
    let slots = each-slot c.args.sizes c.args.slots.now c.requires.slots in
    inr (leaves_trees c.args.sizes c.args.next c.args.told.now c.args.slots.now c.args.blocks.now.draft
    c.in_ok-trees.trees laying c.requires.fresh slots state before after _ found
    (whole-made c.in_ok-trees.trees.superblock
    (nodes_written c.args.blocks.now.draft c.in_ok-trees.trees) _ _
    c.in-Ok.ensures.calls (Synced ∷ before) told) now)

pub returns-in-Err-Failed-clause-crashes : goal.returns-in-Err-Failed-clause-crashes
returns-in-Err-Failed-clause-crashes g c = λ before after state told now found.
    let laying = listed-IsLaying c.args.sizes c.args.next c.args.told.now c.args.slots.now c.args.blocks.now.draft
    c.in_ok-trees.trees c.in_ok-addresses.addresses c.in_ok-trees.ensures.superblock c.in_ok-trees.ensures.trees
    c.in_ok-addresses.ensures.addresses c.in_ok-addresses.ensures.ascending in
    let slots = each-slot c.args.sizes c.args.slots.now c.requires.slots in
    inr (leaves_trees c.args.sizes c.args.next c.args.told.now c.args.slots.now c.args.blocks.now.draft
    c.in_ok-trees.trees laying c.requires.fresh slots state before after _ found
    (unsure-whole c.in_ok-trees.trees.superblock
    (nodes_written c.args.blocks.now.draft c.in_ok-trees.trees)
    (Synced ∷ before) _ (c.in-Err-Failed.ensures.front (Synced ∷ before) told)) now)

pub returns-clause-crashes : goal.returns-clause-crashes
returns-clause-crashes g c = λ before after state told now found.
    let laying = listed-IsLaying c.args.sizes c.args.next c.args.told.now c.args.slots.now c.args.blocks.now.draft
    c.in_ok-trees.trees c.in_ok-addresses.addresses c.in_ok-trees.ensures.superblock c.in_ok-trees.ensures.trees
    c.in_ok-addresses.ensures.addresses c.in_ok-addresses.ensures.ascending in
    let slots = each-slot c.args.sizes c.args.slots.now c.requires.slots in
    inr (leaves_trees c.args.sizes c.args.next c.args.told.now c.args.slots.now c.args.blocks.now.draft
    c.in_ok-trees.trees laying c.requires.fresh slots state before after _ found
    (unsure-whole c.in_ok-trees.trees.superblock
    (nodes_written c.args.blocks.now.draft c.in_ok-trees.trees)
    (Synced ∷ before) _ (c.in-Err-NoMemory.ensures.front (Synced ∷ before) told)) now)
