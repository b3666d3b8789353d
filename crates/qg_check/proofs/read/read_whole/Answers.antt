use Rattle.std.proofs.Common.{◌≡◌, ℕ, List, [], ◌∷◌, length, None, Some, refl, sym, ap, ◌∙◌}
use Rattle.std.specs.Prelude.{Option}
use Rattle.qg_device.specs.History.{Event, Recorded, content}
use Rattle.qg_super.specs.declared.superblock.Super.{Super}
use Rattle.qg_super.specs.SuperText.{choose}
use Rattle.qg_image.specs.declared.failure.Failure.{Failure}
use Rattle.qg_image.specs.Failure.{first_failure}
use Rattle.qg_image.specs.Verdict.{verdict, places_failure, roots_failure}
use Rattle.qg_image.specs.ImageState.{super_in, super_of}
use Rattle.qg_check.specs.declared.trees.Trees.{Trees}
use Rattle.qg_check.specs.Stages.{trees_failure}
use Rattle.qg_check.specs.Trees.{AreTrees}
use Rattle.qg_check.proofs.Staging.{tells_first, pass_first, tells_same, tells_handed}
use Rattle.qg_check.proofs.Verdicts.{alone, verdict_none, verdict_some, image_failure_parts, rest_failure}
use Rattle.qg_check.proofs.Verdicts.{rest_failure_trees}
use Rattle.qg_check.proofs.read.read_whole.Given.{Over}
use Rattle.qg_check.proofs.read.read_whole.Goals as goal
use Rattle.qg_check.proofs.read.read_whole.Goals.{After-len}

-- the superblock that counts, of those that were read
super_read : (bytes : List ℕ) (first second : Option Super) → first ≡ super_in bytes 65536
    → second ≡ super_in bytes 67108864 → super_of bytes ≡ choose first second
unfolding super_of
super_read bytes first second is is' = rw (is, is') refl

pub returns-in_default-clause-failure : goal.returns-in_default-clause-failure
returns-in_default-clause-failure g c = λ events told.
    let bytes = content events in
    let places = c.in_ok-places.places in
    let none : super_of bytes ≡ None =
    super_read bytes places.first places.second (c.in_ok-places.ensures.first events told)
    (c.in_ok-places.ensures.second events told) ∙ sym c.chosen.ensures.value ∙ c.in_default.is in
    rw c.new.ensures (verdict_none bytes none)

-- the parts of the verdict, by the superblock that counts
parts : (bytes : List ℕ) (first second : Option Super) (super : Super) → first ≡ super_in bytes 65536
    → second ≡ super_in bytes 67108864 → choose first second ≡ Some super
    → verdict bytes ≡ first_failure (places_failure super first second (length bytes) ∷ roots_failure super bytes
    ∷ rest_failure super bytes ∷ [])
parts bytes first second super is is' chosen =
    verdict_some bytes super (super_read bytes first second is is' ∙ chosen) ∙ image_failure_parts super bytes
    ∙ (rw (sym is, sym is') refl)

-- and by how long the disk is
sized_parts : (bytes : List ℕ) (first second : Option Super) (super : Super) (len : ℕ) → first ≡ super_in bytes 65536
    → second ≡ super_in bytes 67108864 → choose first second ≡ Some super → len ≡ length bytes
    → verdict bytes ≡ first_failure (places_failure super first second len ∷ roots_failure super bytes
    ∷ rest_failure super bytes ∷ [])
sized_parts bytes first second super len is is' chosen long =
    parts bytes first second super is is' chosen
    ∙ ap (λ (n : ℕ). first_failure (places_failure super first second n ∷ roots_failure super bytes
    ∷ rest_failure super bytes ∷ [])) (sym long)

-- what is left of it where the superblocks and the root tree break no rule
trees_left : (bytes : List ℕ) (super : Super) (trees : Trees) (places : Option Failure)
    → verdict bytes ≡ first_failure (places ∷ roots_failure super bytes ∷ rest_failure super bytes ∷ []) → places ≡ None
    → roots_failure super bytes ≡ None → AreTrees super bytes trees → verdict bytes ≡ trees_failure super bytes trees
trees_left bytes super trees places whole none none' are =
    whole ∙ pass_first places _ none ∙ pass_first (roots_failure super bytes) _ none' ∙ alone (rest_failure super bytes)
    ∙ rest_failure_trees super bytes trees are

-- the verdict, by what was read of the superblocks
whole : (g : Over) (c : After-len g) (events : List Event) → g.D.Disk.history c.args.disk.now ≡ Recorded events
    → verdict (content events) ≡ first_failure
    (places_failure c.in-Some.superblock c.in_ok-places.places.first c.in_ok-places.places.second c.len.result
    ∷ roots_failure c.in-Some.superblock (content events) ∷ rest_failure c.in-Some.superblock (content events) ∷ [])
whole g c events told =
    sized_parts (content events) c.in_ok-places.places.first c.in_ok-places.places.second c.in-Some.superblock
    c.len.result (c.in_ok-places.ensures.first events told) (c.in_ok-places.ensures.second events told)
    (sym c.chosen.ensures.value ∙ c.in-Some.is) (c.len.ensures
    ∙ g.met.D.Disk.sized c.read_places.new.disk events (c.in_ok-places.ensures.history ∙ told))

pub returns-in_err-judge_places-clause-failure : goal.returns-in_err-judge_places-clause-failure
returns-in_err-judge_places-clause-failure g c = λ events told.
    let fault = c.in_err-judge_places.field-0.0 in
    tells_handed c.from_residual-in_err-judge_places.result fault _ c.from_residual-in_err-judge_places.ensures.1
    (tells_same fault (whole g (goal.at.returns-in_err-judge_places-clause-failure g c).After-len events told)
    (tells_first fault _ _ c.in_err-judge_places.ensures.failure))

pub returns-in_err-trees-clause-failure : goal.returns-in_err-trees-clause-failure
returns-in_err-trees-clause-failure g c = λ events told.
    let fault = c.in_err-trees.field-0.0 in
    let parts = whole g (goal.at.returns-in_err-trees-clause-failure g c).After-len events told in
    let roots = c.in_err-trees.ensures.failure events (c.in_ok-places.ensures.history ∙ told) in
    tells_handed c.from_residual-in_err-trees.result fault _ c.from_residual-in_err-trees.ensures.1
    (tells_same fault (parts ∙ pass_first _ _ c.in_ok-judge_places.ensures.failure) (tells_first fault _ _ roots))

pub returns-in_err-read-clause-failure : goal.returns-in_err-read-clause-failure
returns-in_err-read-clause-failure g c = λ events told.
    let fault = c.in_err-read.field-0.0 in
    let told' = c.in_ok-places.ensures.history ∙ told in
    let are = c.in_ok-trees.ensures.trees events told' in
    let parts = whole g (goal.at.returns-in_err-read-clause-failure g c).After-len events told in
    tells_handed c.from_residual-in_err-read.result fault _ c.from_residual-in_err-read.ensures.1
    (tells_same fault (trees_left (content events) c.in-Some.superblock c.in_ok-trees.trees _ parts
    c.in_ok-judge_places.ensures.failure (c.in_ok-trees.ensures.failure events told') are)
    (c.in_err-read.ensures.failure events (c.in_ok-trees.ensures.history ∙ told') are))

pub returns-clause-whole : goal.returns-clause-whole
returns-clause-whole g c = λ events told.
    let told' = c.in_ok-places.ensures.history ∙ told in
    let last = c.in_ok-trees.ensures.history ∙ told' in
    let are = c.in_ok-trees.ensures.trees events told' in
    let first = c.in_ok-places.ensures.first events told in
    let second = c.in_ok-places.ensures.second events told in
    let parts = whole g (goal.at.returns-clause-whole g c).After-len events told in
    let read = c.in_ok-read.ensures.read events last are in
    record {
      chosen = super_read (content events) c.in_ok-places.places.first c.in_ok-places.places.second first second
          ∙ sym c.chosen.ensures.value ∙ c.in-Some.is;
      stale = c.stale-other.ensures.value ∙ (rw (first, second) refl);
      read = read.0;
      left = trees_left (content events) c.in-Some.superblock c.in_ok-trees.trees _ parts
          c.in_ok-judge_places.ensures.failure (c.in_ok-trees.ensures.failure events told') are
          ∙ read.1;
    }

pub returns-clause-fit : goal.returns-clause-fit
returns-clause-fit g c = c.in_ok-read.ensures.fit c.in-Some.ensures.fits c.in_ok-trees.ensures.slots
