-- Nodes below which all is well: a leaf, an inner node, and the nodes that pointers lead to.
use Rattle.std.proofs.Common.{◌≡◌, ℕ, zero, suc, ◌-◌, ◌≤◌, true, List, [], ◌∷◌, ◌++◌, map, refl, sym, ap, subst, ◌∙◌}
use Rattle.std.proofs.Common.{arith, Option, Some, None, inl, inr}
use Rattle.std.specs.Prelude.{◌&&◌, Ok, IsTrue}
use Rattle.std.specs.List.{Contains}
use Rattle.std.proofs.lemmas.Bool.{and_from, and_parts, eqb-true}
use Rattle.std.proofs.lemmas.List.{length-map}
use Rattle.std.proofs.lemmas.List.Elements.{Contains-append_cases}
use Rattle.qg_device.specs.History.{Event, Recorded, content}
use Rattle.qg_device.proofs.Histories.{same_Recorded}
use Rattle.qg_num.specs.declared.key.Key.{Key}
use Rattle.qg_node.specs.declared.item.Item.{Item}
use Rattle.qg_node.specs.declared.pointer.Pointer.{Pointer}
use Rattle.qg_node.specs.declared.node.Header.{Header}
use Rattle.qg_node.specs.declared.node.Node.{Node}
use Rattle.qg_node.specs.declared.node.Node.TheVariants.{Leaf, Inner}
use Rattle.qg_node.specs.Nodes.{is_ascending}
use Rattle.qg_super.specs.declared.superblock.Super.{Super}
use Rattle.qg_image.specs.declared.part.FilePart.{FilePart}
use Rattle.qg_image.specs.ItemMeaning.{file_part}
use Rattle.qg_tree_items.specs.Keys.{file_key}
use Rattle.qg_tree_items.proofs.KeysOfParts.{files_ascending}
use Rattle.qg_tree_items.specs.Rows.{Tells}
use Rattle.qg_image.proofs.Contained.{contains_cases, none_contained}
use Rattle.qg_image.specs.declared.tree.TreeKind.TheVariants.{Files}
use Rattle.qg_image.specs.declared.expected.Expected.{Expected}
use Rattle.qg_image.specs.ImageState.{level_in}
use Rattle.qg_image.specs.Walk.{ends_before, is_told, next_key, node_failure, node_found, walk_failure}
use Rattle.qg_walk.specs.Added.{AreSpaced, Below as BelowAddress, HasAdded, below_node, below_pointers}
use Rattle.qg_walk.specs.Standing.{IsJudged, expected_below, form_failure}
use Rattle.qg_walk.proofs.Failures.{walk-inner, walk-leaf}
use Rattle.qg_walk.proofs.Growth.{HasAdded-inner, HasAdded-leaf, HasPassed, HasPassed-all, HasPassed-more}
use Rattle.qg_walk.proofs.Growth.{HasPassed-none}
use Rattle.qg_walk.proofs.KeyRanges.{AreSpaced-within, AreWithin-own}
use Rattle.qg_shared_walk.specs.declared.digest.Below.{Below}
use Rattle.qg_shared_walk.specs.declared.digest.Digest.{Digest}
use Rattle.qg_shared_walk.specs.Digests.{HasBehind, IsDigestOf, begins_by, ends_by, fits, fits_alone, has_shape}
use Rattle.qg_shared_walk.specs.Wells.{AreBelow, AreWell, IsLeafRead, IsWell, Whole, all_failure, AreThese, found_of}
use Rattle.qg_shared_walk.proofs.Forms.{fits_form, form_fits, form_parts, form_whole, leaf_ends}
use Rattle.qg_shared_walk.proofs.Walks.{failure_append, failure_last, pointers_end, spaced_front, spaced_last}
use Rattle.qg_shared_walk.proofs.Walks.{walk_formed, walk_under}

-- ---- what was found before

-- behind whatever was found before
shifted : (super : Super) (events : List Event) (from to : Option Key) (below : List ℕ → BelowAddress)
    (parts : List FilePart) (nodes : List Node) (whole : Whole)
    → AreBelow super events from to below whole
    → HasAdded Files file_part AreThese super (Recorded events) from to below (found_of parts nodes)
    (found_of (parts ++ whole.parts) (nodes ++ whole.nodes))
shifted super events from to below parts nodes whole added = record {
  items = added.items;
  nodes = added.nodes;
  parts = added.parts;
  held = added.held;
  bytes = added.bytes;
  within = added.within;
  said = added.said;
  slots = added.slots;
  more_parts = ap (λ back. parts ++ back) added.more_parts;
  more_nodes = λ before same. ap (λ front. front ++ whole.nodes) same
      ∙ ap (λ back. before ++ back) (added.more_nodes [] refl);
  items_stand = added.items_stand;
  nodes_stand = added.nodes_stand;
}

-- what an image holds, said of each way to tell its events
told_so : (super : Super) (events : List Event) (address : ℕ) (node : Node)
    → node_found super (content events) address ≡ Ok node
    → (other : List Event) → Recorded events ≡ Recorded other → node_found super (content other) address ≡ Ok node
told_so super events address node found other told =
    subst (λ (e : List Event). node_found super (content e) address ≡ Ok node) (same_Recorded events other told) found

-- what was said has ascending keys
pub parts_ascend : (super : Super) (events : List Event) (from to : Option Key) (below : List ℕ → BelowAddress)
    (whole : Whole)
    → AreBelow super events from to below whole → IsTrue (is_ascending (map file_key whole.parts))
parts_ascend super events from to below whole added =
    let said : map file_part added.items ≡ map (λ part. Some part) whole.parts = added.said
    ∙ ap (λ (parts : List FilePart). map (λ part. Some part) parts) (sym added.more_parts) in
    files_ascending whole.parts (record { items = added.items; said = said; ascending = added.within.ascending })

-- ---- more that is kept

pub well_still : (super : Super) (events : List Event) (kept now : List Node) (address : ℕ) (digest : Digest)
    (whole : Whole)
    → ((n : Node) → Contains kept n → Contains now n) → IsWell super events kept address digest whole
    → IsWell super events now address digest whole
well_still super events kept now address digest whole stay well = record {
  node = well.node;
  found = well.found;
  told = well.told;
  low = well.low;
  sound = well.sound;
  only = well.only;
  below = well.below;
  row = well.row;
  remembered = λ n has. stay n (well.remembered n has);
}

pub are_well_still : (super : Super) (events : List Event) (kept now : List Node) (level : ℕ) (pointers : List Pointer)
    (below : Below) (whole : Whole)
    → ((n : Node) → Contains kept n → Contains now n) → AreWell super events kept level pointers below whole
    → AreWell super events now level pointers below whole
are_well_still super events kept now level pointers below whole stay well = record {
  sound = well.sound;
  only = well.only;
  stand = well.stand;
  row = well.row;
  remembered = λ n has. stay n (well.remembered n has);
}

-- ---- a leaf

module _ (super : Super) (events : List Event) (given : Expected) (address : ℕ) (header : Header) (items : List Item)
    (below : Below)
    (found : node_found super (content events) address ≡ Ok (Leaf header items))
    (judged : IsJudged Files super given address (Leaf header items))
    (read : IsLeafRead super.generation items below) where
  abbrev pub leaf_whole : Whole
  leaf_whole = record { parts = read.parts; nodes = Leaf header items ∷ [] }

  ends_so : (to : Option Key) → ends_by to below.last ≡ ends_before to (map (λ item. item.key) items)
  ends_so to =
      let keys = map (λ (item : Item). item.key) items in
      leaf_ends to below.last keys judged.stands.sound.ascending (rw length-map read.last)

  pub leaf_well : (kept : List Node) (digest : Digest) → IsDigestOf super.nodesize (Leaf header items) digest
      → digest.below ≡ below
      → Contains kept (Leaf header items) → IsWell super events kept address digest leaf_whole
  leaf_well kept digest told same has =
      let node = Leaf header items in
      let keys = map (λ (item : Item). item.key) items in
      let last : digest.below.last ≡ below.last = ap (λ (b : Below). b.last) same in
      let old = form_parts super given address node judged.formed in
      let ascending = judged.stands.sound.ascending in
      let formed : (expected : Expected) → fits expected digest ≡ true
      → form_failure Files super expected address node ≡ None =
      λ expected fit.
      let parts = and_parts (fits_alone expected digest) (ends_by expected.to digest.below.last) fit in
      let ends : ends_before expected.to keys ≡ true = sym (ends_so expected.to) ∙ ap (ends_by expected.to) (sym last)
      ∙ parts.1 in
      form_whole super expected address node
      (fits_form super node digest given expected told ascending old parts.0 ends) in
      record {
        node = node;
        found = found;
        told = told;
        low = omega (arith, told.level, judged.stands.sound.levelled);
        sound = λ expected depth low fit.
            walk-leaf Files super (node_found super (content events)) depth expected address header items found
            (formed expected fit)
            ∙ rw read.held refl;
        only = λ expected depth low none.
            let keeps = form_parts super expected address node
            (walk_formed super events depth expected address node found none) in
            and_from (fits_alone expected digest) (ends_by expected.to digest.below.last)
            (form_fits super node digest expected told keeps)
            (ap (ends_by expected.to) last ∙ ends_so expected.to ∙ keeps.ends);
        below = λ expected fit.
            HasAdded-leaf Files file_part AreThese super (Recorded events) expected address header items
            (found_of [] [])
            (found_of read.parts (node ∷ []))
            (record { stands = judged.stands; formed = formed expected fit }) (told_so super events address node found)
            read.held read.bytes
            (record { parts = read.parts; said = read.said; more = refl })
            (λ before same. ap (λ front. front ++ node ∷ []) same);
        row = subst (λ (b : Below). Tells b.row read.parts) (sym same) read.row;
        remembered = λ n there. elim (contains_cases node [] n there) [
          | inl is ↦ subst (λ (m : Node). Contains kept m) is has
          | inr none ↦ absurd (none_contained n none)
        ];
      }

  pub leaf_fits : (digest : Digest) → IsDigestOf super.nodesize (Leaf header items) digest → digest.below ≡ below
      → fits given digest ≡ true
  leaf_fits digest told same =
      let node = Leaf header items in
      let last : digest.below.last ≡ below.last = ap (λ (b : Below). b.last) same in
      let keeps = form_parts super given address node judged.formed in
      and_from (fits_alone given digest) (ends_by given.to digest.below.last)
      (form_fits super node digest given told keeps)
      (ap (ends_by given.to) last ∙ ends_so given.to ∙ keeps.ends)

-- ---- an inner node

module _ (super : Super) (events : List Event) (given : Expected) (address : ℕ) (header : Header)
    (pointers : List Pointer) (below : Below)
    (found : node_found super (content events) address ≡ Ok (Inner header pointers))
    (judged : IsJudged Files super given address (Inner header pointers))
    (whole : Whole) where
  abbrev pub inner_whole : Whole
  inner_whole = record { parts = whole.parts; nodes = Inner header pointers ∷ whole.nodes }

  module _ (digest : Digest) (told : IsDigestOf super.nodesize (Inner header pointers) digest)
      (same : digest.below ≡ below)
      (kept : List Node) (well : AreWell super events kept (header.level - 1) pointers below whole) where
    last : digest.below.last ≡ below.last
    last = ap (λ (b : Below). b.last) same

    formed : (expected : Expected) → fits expected digest ≡ true
        → form_failure Files super expected address (Inner header pointers) ≡ None
    formed expected fit =
        let node = Inner header pointers in
        let parts = and_parts (fits_alone expected digest) (ends_by expected.to digest.below.last) fit in
        let none = well.sound expected.to (header.level - 1) (omega arith) (ap (ends_by expected.to) (sym last)
        ∙ parts.1) in
        let ends = pointers_end super events (header.level - 1) (header.level - 1) expected.to pointers none in
        form_whole super expected address node
        (fits_form super node digest given expected told judged.stands.sound.ascending
        (form_parts super given address node judged.formed) parts.0 ends)

    sound : (expected : Expected) (depth : ℕ) → digest.level ≤ depth → fits expected digest ≡ true
        → all_failure super events depth expected address ≡ None
    sound expected zero low fit = absurd (omega (arith, low, told.level, judged.stands.sound.levelled.0))
    sound expected (suc depth) low fit =
        let parts = and_parts (fits_alone expected digest) (ends_by expected.to digest.below.last) fit in
        let less : header.level - 1 ≤ depth = omega (arith, low, told.level) in
        walk-inner Files super (node_found super (content events)) depth expected address header pointers found
        (formed expected fit)
        ∙ well.sound expected.to depth less (ap (ends_by expected.to) (sym last) ∙ parts.1)

    only : (expected : Expected) (depth : ℕ) → digest.level ≤ depth
        → all_failure super events depth expected address ≡ None → fits expected digest ≡ true
    only expected zero low none = absurd (omega (arith, low, told.level, judged.stands.sound.levelled.0))
    only expected (suc depth) low none =
        let node = Inner header pointers in
        let keeps = form_parts super expected address node
        (walk_formed super events (suc depth) expected address node found none) in
        let less : header.level - 1 ≤ depth = omega (arith, low, told.level) in
        let ends = well.only expected.to depth less
        (walk_under super events depth expected address header pointers found none) in
        and_from (fits_alone expected digest) (ends_by expected.to digest.below.last)
        (form_fits super node digest expected told keeps) (ap (ends_by expected.to) last ∙ ends)

    stands_below : (expected : Expected) → fits expected digest ≡ true
        → AreBelow super events expected.from expected.to (below_node super address) inner_whole
    stands_below expected fit =
        let node = Inner header pointers in
        let parts = and_parts (fits_alone expected digest) (ends_by expected.to digest.below.last) fit in
        let keeps = form_parts super expected address node (formed expected fit) in
        let keys = map (λ (pointer : Pointer). pointer.key) pointers in
        let spaced = AreSpaced-within expected.from expected.to pointers
        (AreWithin-own expected.from expected.to keys judged.stands.sound.ascending keeps.begins keeps.ends) in
        let ends : ends_by expected.to below.last ≡ true = ap (ends_by expected.to) (sym last) ∙ parts.1 in
        HasAdded-inner Files file_part AreThese super (Recorded events) expected address header pointers
        (found_of [] [])
        (found_of [] (node ∷ [])) (found_of whole.parts (node ∷ whole.nodes))
        (record { stands = judged.stands; formed = formed expected fit }) (told_so super events address node found) refl
        (λ before given. ap (λ front. front ++ node ∷ []) given)
        (shifted super events expected.from expected.to (below_pointers super (header.level - 1) pointers) []
        (node ∷ []) whole (well.stand expected.from expected.to spaced ends))

    pub inner_fits : ends_by given.to below.last ≡ true → fits given digest ≡ true
    inner_fits ends =
        let node = Inner header pointers in
        and_from (fits_alone given digest) (ends_by given.to digest.below.last)
        (form_fits super node digest given told (form_parts super given address node judged.formed))
        (ap (ends_by given.to) last ∙ ends)

    pub inner_well : Contains kept (Inner header pointers) → IsWell super events kept address digest inner_whole
    inner_well has =
        let node = Inner header pointers in
        record {
          node = node;
          found = found;
          told = told;
          low = omega (arith, told.level, judged.stands.sound.levelled.1);
          sound = sound;
          only = only;
          below = stands_below;
          row = subst (λ (b : Below). Tells b.row whole.parts) (sym same) well.row;
          remembered = λ n there. elim (contains_cases node whole.nodes n there) [
            | inl is ↦ subst (λ (m : Node). Contains kept m) is has
            | inr later ↦ well.remembered n later
          ];
        }

-- ---- the nodes that pointers lead to

abbrev pub no_whole : Whole
no_whole = record { parts = []; nodes = [] }

pub none_well : (super : Super) (events : List Event) (kept : List Node) (level : ℕ) (below : Below) → below.last ≡ None
    → Tells below.row []
    → AreWell super events kept level [] below no_whole
none_well super events kept level below last row = record {
  sound = λ to depth low ends. refl;
  only = λ to depth low none. rw last refl;
  stand = λ from to spaced ends.
      let nothing = found_of [] [] in
      HasPassed-all Files file_part AreThese super (Recorded events) from to level [] [] nothing nothing refl
      (HasPassed-none Files file_part AreThese super (Recorded events) from to level [] nothing);
  row = row;
  remembered = λ n has. absurd (none_contained n has);
}

module _ (super : Super) (events : List Event) (kept : List Node) (level : ℕ) (front : List Pointer) (before : Below)
    (whole : Whole)
    (well : AreWell super events kept level front before whole) (pointer : Pointer)
    (reached : ends_by (Some pointer.key) before.last ≡ true)
    (digest : Digest) (lower : Whole) (here : IsWell super events kept pointer.child digest lower)
    (to0 : Option Key) (others : List Pointer) (fit : fits (expected_below level to0 pointer others) digest
    ≡ true) where
  abbrev pub more_whole : Whole
  more_whole = record { parts = whole.parts ++ lower.parts; nodes = whole.nodes ++ lower.nodes }

  alone : fits_alone (expected_below level to0 pointer others) digest ≡ true
  alone = (and_parts (fits_alone (expected_below level to0 pointer others) digest)
      (ends_by (next_key to0 others) digest.below.last) fit).0

  pub ends_there : ends_by (next_key to0 others) digest.below.last ≡ true
  ends_there = (and_parts (fits_alone (expected_below level to0 pointer others) digest)
      (ends_by (next_key to0 others) digest.below.last) fit).1

  refit : (to : Option Key) → ends_by to digest.below.last ≡ true
      → fits (expected_below level to pointer []) digest ≡ true
  refit to ends = and_from (fits_alone (expected_below level to pointer []) digest) (ends_by to digest.below.last) alone
      ends

  level_is : level ≡ digest.level
  level_is =
      let generation = is_told (Some pointer.generation) digest.generation in
      let begins = begins_by (Some pointer.key) digest.first in
      let told = is_told (Some level) digest.level in
      eqb-true level digest.level
      (and_parts told generation
      (and_parts (told && generation) begins
      (and_parts (told && generation && begins) (has_shape (Some pointer.key) digest) alone).0).0).0

  level_there : (other : List Event) → Recorded events ≡ Recorded other
      → level_in super (content other) pointer.child ≡ level
  level_there other told =
      let found = told_so super events pointer.child here.node here.found other told in
      rw found (sym here.told.level ∙ sym level_is)

  stand_more : (from to : Option Key) → AreSpaced from to (front ++ pointer ∷ []) → ends_by to digest.below.last ≡ true
      → AreBelow super events from to (below_pointers super level (front ++ pointer ∷ [])) more_whole
  stand_more from to spaced ends =
      let all = front ++ pointer ∷ [] in
      let nothing = found_of [] [] in
      let middle = found_of whole.parts whole.nodes in
      let new = found_of (whole.parts ++ lower.parts) (whole.nodes ++ lower.nodes) in
      let last = spaced_last from to front pointer spaced in
      let passed : HasPassed Files file_part AreThese super (Recorded events) from to level all
      (pointer ∷ []) nothing middle =
      record {
        front = front;
        whole = refl;
        added = well.stand from (Some pointer.key) (spaced_front from to front (pointer ∷ []) spaced) reached;
      } in
      let more = shifted super events (Some pointer.key) to (below_node super pointer.child) whole.parts whole.nodes
      lower (here.below (expected_below level to pointer []) (refit to ends)) in
      HasPassed-all Files file_part AreThese super (Recorded events) from to level all [] nothing new refl
      (HasPassed-more Files file_part AreThese super (Recorded events) from to level all pointer [] nothing middle new
      passed more level_there last.0 last.1)

  pub more_well : (from0 : Option Key) (after : Below) → AreSpaced from0 (next_key to0 others) (front ++ pointer ∷ [])
      → HasBehind before digest.below after
      → AreWell super events kept level (front ++ pointer ∷ []) after more_whole
  more_well from0 after spaced behind =
      let walk = λ (depth : ℕ). walk_failure (node_failure Files super) (node_found super (content events)) depth in
      record {
        sound = λ to depth low ends.
            let fitting = refit to (ap (ends_by to) (sym behind.last) ∙ ends) in
            failure_append (walk depth) level to front pointer (well.sound (Some pointer.key) depth low reached)
            (here.sound (expected_below level to pointer []) depth (omega (arith, level_is, low)) fitting);
        only = λ to depth low none.
            let child = failure_last (walk depth) level to front pointer none in
            let fitting = here.only (expected_below level to pointer []) depth (omega (arith, level_is, low)) child in
            ap (ends_by to) behind.last
            ∙ (and_parts (fits_alone (expected_below level to pointer []) digest) (ends_by to digest.below.last)
            fitting).1;
        stand = λ from to spaced ends. stand_more from to spaced (ap (ends_by to) (sym behind.last) ∙ ends);
        row =
            behind.row whole.parts lower.parts well.row here.row
            (parts_ascend super events from0 (next_key to0 others) (below_pointers super level (front ++ pointer ∷ []))
            more_whole (stand_more from0 (next_key to0 others) spaced ends_there));
        remembered = λ n there. elim (Contains-append_cases whole.nodes lower.nodes n there) [
          | inl early ↦ well.remembered n early
          | inr late ↦ here.remembered n late
        ];
      }
