use Rattle.std.proofs.Common.{◌≡◌, ℕ, inl, inr, refl, sym, ap, ◌∙◌, subst, arith}
use Rattle.std.proofs.lemmas.Bool.{true≢false}
use Rattle.qg_device.specs.History.{content}
use Rattle.qg_device.proofs.Histories.{same_Recorded}
use Rattle.qg_super.specs.declared.sizes.Sizes.{Sizes}
use Rattle.qg_super.specs.Places.{is_served}
use Rattle.qg_words.specs.Words.{AskFor, AskForImage, AskForLines, HaveForm, check_words, run_words, texts}
use Rattle.qg_words.specs.declared.form.Form.{Form}
use Rattle.qg_words.specs.declared.form.Form.TheVariants.{Mkfs, Run, Check, Generate}
use Rattle.qg_words.proofs.OneForm.{one_count, one_image, one_seed}
use Rattle.qg_program.specs.Words.{AskForTooMany, AskForUnserved, AskUnserved}
use Rattle.qg_program.specs.declared.status.Status.TheVariants as status
use Rattle.qg_program.proofs.Asked.{checks-begin, ends-by, generates-begin, makes-begin, other-form, runs-begin}
use Rattle.qg_program.proofs.Completed.{checks-done, checks-found, failure-found, follows-ends, for-cause}
use Rattle.qg_program.proofs.Completed.{generates-ends, makes-done, refuses-ends}
use Rattle.qg_program.proofs.Judged.{state-sound}
use Rattle.qg_program.proofs.Unread.{unread-leaves, unread-taken}
use Rattle.qg_program.specs.Leaving.{Drawn, Input}
use Rattle.qg_program.proofs.program.run_program.Given.{Over}
use Rattle.qg_program.proofs.program.run_program.Goals as goal

-- ---- an image was asked for

-- the words ask for what was read
asked : (g : Over) (c : goal.After-make g) → AskForImage (texts c.args.words.now.items) c.in-Ok-Some-Mkfs.sizes
asked g c = subst (λ items. AskForImage (texts items) c.in-Ok-Some-Mkfs.sizes) c.deref.ensures.value
    (rw c.in-Ok-Some-Mkfs.field-0-0-is at (rw c.in-Ok-Some-Mkfs.field-0-is at c.in-Ok-Some-Mkfs.ensures.found))

-- and for nothing else
same : (g : Over) (c : goal.After-make g) (sizes : Sizes) → AskForImage (texts c.args.words.now.items) sizes
    → sizes ≡ c.in-Ok-Some-Mkfs.sizes
same g c sizes ask = one_image (texts c.args.words.now.items) sizes c.in-Ok-Some-Mkfs.sizes ask (asked g c)

no-lines : (g : Over) (c : goal.After-make g) (seed count : ℕ) → AskForLines (texts c.args.words.now.items) seed count
    → ⊥
no-lines g c seed count ask = other-form _ (Mkfs c.in-Ok-Some-Mkfs.sizes) (Generate seed count) (asked g c) ask
    (omega arith)

no-run : (g : Over) (c : goal.After-make g) → texts c.args.words.now.items ≡ run_words → ⊥
no-run g c ask = other-form _ (Mkfs c.in-Ok-Some-Mkfs.sizes) Run (asked g c) ask (omega arith)

-- sizes that are not served are refused
unserved-sizes : (g : Over) (c : goal.After-make g) → AskForUnserved c.args.words.now.items
    → c.make.result ≡ status.Sizes
unserved-sizes g c unserved = c.make.ensures.sizes.1
    (sym (ap is_served (same g c unserved.sizes unserved.ask)) ∙ unserved.unserved)

pub returns-in-Ok-Some-Mkfs-clause-words : goal.returns-in-Ok-Some-Mkfs-clause-words
returns-in-Ok-Some-Mkfs-clause-words g c = record {
  only = λ is. let ends = rw is at c.make.ensures.ends in absurd cc;
  always = λ none. absurd (none (record { form = Mkfs c.in-Ok-Some-Mkfs.sizes; ask = asked g c }));
}

pub returns-in-Ok-Some-Mkfs-clause-untouched : goal.returns-in-Ok-Some-Mkfs-clause-untouched
returns-in-Ok-Some-Mkfs-clause-untouched g c = λ nothing.
    let refused : c.make.result ≡ status.Sizes = elim nothing [
      | inl is ↦ makes-begin c.make.result c.make.ensures.ends is
      | inr (inl none) ↦ absurd (none (record { form = Mkfs c.in-Ok-Some-Mkfs.sizes; ask = asked g c }))
      | inr (inr (inl unserved)) ↦ unserved-sizes g c unserved
      | inr (inr (inr many)) ↦ absurd (no-lines g c many.seed many.count many.ask)
    ] in
    let kept = c.make.ensures.untouched refused in
    (kept.0, refl, kept.1)

pub returns-in-Ok-Some-Mkfs-clause-ends : goal.returns-in-Ok-Some-Mkfs-clause-ends
returns-in-Ok-Some-Mkfs-clause-ends g c =
    ends-by _ (Mkfs c.in-Ok-Some-Mkfs.sizes) c.make.result (asked g c) c.make.ensures.ends (record {
      only = λ is.
          inl (record { sizes = c.in-Ok-Some-Mkfs.sizes; ask = asked g c; unserved = c.make.ensures.sizes.0 is });
      always = λ asks. elim asks [
        | inl unserved ↦ inl (unserved-sizes g c unserved)
        | inr many ↦ absurd (no-lines g c many.seed many.count many.ask)
      ];
    })

pub returns-in-Ok-Some-Mkfs-clause-makes : goal.returns-in-Ok-Some-Mkfs-clause-makes
returns-in-Ok-Some-Mkfs-clause-makes g c = λ sizes asks.
    let is = same g c sizes asks.ask in (
      rw is (record {
        calls = c.make.ensures.calls;
        fresh = c.make.ensures.fresh;
        stops = c.make.ensures.stops;
        wants = c.make.ensures.wants;
        said = c.make.ensures.put;
      }),
      refl,
    )

pub returns-in-Ok-Some-Mkfs-clause-checks : goal.returns-in-Ok-Some-Mkfs-clause-checks
returns-in-Ok-Some-Mkfs-clause-checks g c =
    λ ask. absurd (other-form _ (Mkfs c.in-Ok-Some-Mkfs.sizes) Check (asked g c) ask (omega arith))

pub returns-in-Ok-Some-Mkfs-clause-follows : goal.returns-in-Ok-Some-Mkfs-clause-follows
returns-in-Ok-Some-Mkfs-clause-follows g c = λ events state told stands. record {
  run = λ ask input left. absurd (no-run g c ask);
  lines = λ seed count asks. absurd (no-lines g c seed count asks.ask);
}

pub returns-in-Ok-Some-Mkfs-clause-refuses : goal.returns-in-Ok-Some-Mkfs-clause-refuses
returns-in-Ok-Some-Mkfs-clause-refuses g c = record {
  refuses = λ events failure asks told unsound. elim asks [
    | inl run ↦ absurd (no-run g c run)
    | inr lines ↦ absurd (no-lines g c lines.0 lines.1 lines.2.ask)
  ];
  told = λ is. let ends = rw is at c.make.ensures.ends in absurd cc;
  unsound = λ events is told. let ends = rw is at c.make.ensures.ends in absurd cc;
}

pub returns-in-Ok-Some-Mkfs-clause-crashes : goal.returns-in-Ok-Some-Mkfs-clause-crashes
returns-in-Ok-Some-Mkfs-clause-crashes g c = λ events after state told now stands. record {
  run = λ ask. absurd (no-run g c ask);
  lines = λ seed count asks. absurd (no-lines g c seed count asks.ask);
}

pub returns-in-Ok-Some-Mkfs-clause-takes : goal.returns-in-Ok-Some-Mkfs-clause-takes
returns-in-Ok-Some-Mkfs-clause-takes g c = (λ ask. absurd (no-run g c ask), λ other. refl)

no-check : (g : Over) (c : goal.After-make g) → texts c.args.words.now.items ≡ check_words → ⊥
no-check g c ask = other-form _ (Mkfs c.in-Ok-Some-Mkfs.sizes) Check (asked g c) ask (omega arith)

pub returns-in-Ok-Some-Mkfs-clause-causes : goal.returns-in-Ok-Some-Mkfs-clause-causes
returns-in-Ok-Some-Mkfs-clause-causes g c =
    for-cause (record {
      source = inr ((λ is. let ends = rw is at c.make.ensures.ends in absurd cc), refl);
      sink = c.make.ensures.sink_fault;
      disk = c.make.ensures.disk_fault;
    })
    (λ causes events told nothing. record {
      runs = λ ask sound script. absurd (no-run g c ask);
      generates = λ seed count asks sound. absurd (no-lines g c seed count asks.ask);
      checks = λ ask sound. absurd (no-check g c ask);
      refuses = λ asks unsound. elim asks [
        | inl run ↦ absurd (no-run g c run)
        | inr lines ↦ absurd (no-lines g c lines.0 lines.1 lines.2.ask)
      ];
      finds = λ ask unsound. absurd (no-check g c ask);
      makes = λ sizes asks.
          makes-done nothing c.make.result causes c.make.ensures.ends
          (λ is. true≢false (sym asks.served ∙ ap is_served (same g c sizes asks.ask) ∙ c.make.ensures.sizes.0 is));
    })

-- ---- a run was asked for

asked-run : (g : Over) (c : goal.After-run g) → texts c.args.words.now.items ≡ run_words
asked-run g c = subst (λ items. texts items ≡ run_words) c.deref.ensures.value
    (rw c.in-Ok-Some-Run.field-0-0-is at (rw c.in-Ok-Some-Run.field-0-is at c.in-Ok-Some-Run.ensures.found))

run-no-lines : (g : Over) (c : goal.After-run g) (seed count : ℕ)
    → AskForLines (texts c.args.words.now.items) seed count → ⊥
run-no-lines g c seed count ask = other-form _ Run (Generate seed count) (asked-run g c) ask (omega arith)

run-no-image : (g : Over) (c : goal.After-run g) (sizes : Sizes) → AskForImage (texts c.args.words.now.items) sizes → ⊥
run-no-image g c sizes ask = other-form _ Run (Mkfs sizes) (asked-run g c) ask (omega arith)

run-asks : (g : Over) (c : goal.After-run g) → AskUnserved c.args.words.now.items → ⊥
run-asks g c (inl unserved) = run-no-image g c unserved.sizes unserved.ask
run-asks g c (inr many) = run-no-lines g c many.seed many.count many.ask

pub returns-in-Ok-Some-Run-clause-words : goal.returns-in-Ok-Some-Run-clause-words
returns-in-Ok-Some-Run-clause-words g c = record {
  only = λ is. let ends = rw is at c.run.ensures.ends in absurd cc;
  always = λ none. absurd (none (record { form = Run; ask = asked-run g c }));
}

pub returns-in-Ok-Some-Run-clause-untouched : goal.returns-in-Ok-Some-Run-clause-untouched
returns-in-Ok-Some-Run-clause-untouched g c = λ nothing. elim nothing [
  | inl is ↦ absurd (runs-begin c.run.result c.run.ensures.ends is)
  | inr (inl none) ↦ absurd (none (record { form = Run; ask = asked-run g c }))
  | inr (inr asks) ↦ absurd (run-asks g c asks)
]

pub returns-in-Ok-Some-Run-clause-ends : goal.returns-in-Ok-Some-Run-clause-ends
returns-in-Ok-Some-Run-clause-ends g c =
    ends-by _ Run c.run.result (asked-run g c) c.run.ensures.ends (record {
      only = λ is. let ends = rw is at c.run.ensures.ends in absurd cc;
      always = λ asks. absurd (run-asks g c asks);
    })

pub returns-in-Ok-Some-Run-clause-makes : goal.returns-in-Ok-Some-Run-clause-makes
returns-in-Ok-Some-Run-clause-makes g c = λ sizes asks. absurd (run-no-image g c sizes asks.ask)

pub returns-in-Ok-Some-Run-clause-checks : goal.returns-in-Ok-Some-Run-clause-checks
returns-in-Ok-Some-Run-clause-checks g c = λ ask. absurd (other-form _ Run Check (asked-run g c) ask (omega arith))

pub returns-in-Ok-Some-Run-clause-follows : goal.returns-in-Ok-Some-Run-clause-follows
returns-in-Ok-Some-Run-clause-follows g c = λ events state told stands. record {
  run = λ ask input left. c.run.ensures.follows events input state told left stands;
  lines = λ seed count asks. absurd (run-no-lines g c seed count asks.ask);
}

pub returns-in-Ok-Some-Run-clause-refuses : goal.returns-in-Ok-Some-Run-clause-refuses
returns-in-Ok-Some-Run-clause-refuses g c = record {
  refuses = λ events failure asks told unsound. c.run.ensures.refuses events failure told unsound;
  told = λ is. inl (asked-run g c, c.run.ensures.told is);
  unsound = λ events is told sound. c.run.ensures.unsound events told is sound;
}

pub returns-in-Ok-Some-Run-clause-crashes : goal.returns-in-Ok-Some-Run-clause-crashes
returns-in-Ok-Some-Run-clause-crashes g c = λ events after state told now stands. record {
  run = λ ask. c.run.ensures.crashes events after state told now stands;
  lines = λ seed count asks. absurd (run-no-lines g c seed count asks.ask);
}

pub returns-in-Ok-Some-Run-clause-takes : goal.returns-in-Ok-Some-Run-clause-takes
returns-in-Ok-Some-Run-clause-takes g c = (λ ask. c.run.ensures.takes, λ other. absurd (other (asked-run g c)))

run-no-check : (g : Over) (c : goal.After-run g) → texts c.args.words.now.items ≡ check_words → ⊥
run-no-check g c ask = other-form _ Run Check (asked-run g c) ask (omega arith)

pub returns-in-Ok-Some-Run-clause-causes : goal.returns-in-Ok-Some-Run-clause-causes
returns-in-Ok-Some-Run-clause-causes g c =
    for-cause c.run.ensures.causes
    (λ causes events told nothing. record {
      runs = λ ask sound script.
          let stands = state-sound (content events) sound in
          let taken = rw script.told at c.run.ensures.takes in
          follows-ends nothing c.run.result stands.0 script.input events _ _ _ _ causes
          (c.run.ensures.follows events script.input stands.0 told script.told stands.1) taken script.within;
      generates = λ seed count asks sound. absurd (run-no-lines g c seed count asks.ask);
      checks = λ ask sound. absurd (run-no-check g c ask);
      refuses = λ asks unsound.
          let failure = failure-found (content events) unsound in
          refuses-ends nothing c.run.result _ _ _ causes (c.run.ensures.refuses events failure.0 told failure.1).0.put;
      finds = λ ask unsound. absurd (run-no-check g c ask);
      makes = λ sizes asks. absurd (run-no-image g c sizes asks.ask);
    })

-- ---- it was asked what the image is

asked-check : (g : Over) (c : goal.After-check g) → texts c.args.words.now.items ≡ check_words
asked-check g c = subst (λ items. texts items ≡ check_words) c.deref.ensures.value
    (rw c.in-Ok-Some-Check.field-0-0-is at (rw c.in-Ok-Some-Check.field-0-is at c.in-Ok-Some-Check.ensures.found))

check-no-lines : (g : Over) (c : goal.After-check g) (seed count : ℕ)
    → AskForLines (texts c.args.words.now.items) seed count → ⊥
check-no-lines g c seed count ask = other-form _ Check (Generate seed count) (asked-check g c) ask (omega arith)

check-no-image : (g : Over) (c : goal.After-check g) (sizes : Sizes) → AskForImage (texts c.args.words.now.items) sizes
    → ⊥
check-no-image g c sizes ask = other-form _ Check (Mkfs sizes) (asked-check g c) ask (omega arith)

check-no-run : (g : Over) (c : goal.After-check g) → texts c.args.words.now.items ≡ run_words → ⊥
check-no-run g c ask = other-form _ Check Run (asked-check g c) ask (omega arith)

pub returns-in-Ok-Some-Check-clause-words : goal.returns-in-Ok-Some-Check-clause-words
returns-in-Ok-Some-Check-clause-words g c = record {
  only = λ is. let ends = rw is at c.check.ensures.ends in absurd cc;
  always = λ none. absurd (none (record { form = Check; ask = asked-check g c }));
}

check-asks : (g : Over) (c : goal.After-check g) → AskUnserved c.args.words.now.items → ⊥
check-asks g c (inl unserved) = check-no-image g c unserved.sizes unserved.ask
check-asks g c (inr many) = check-no-lines g c many.seed many.count many.ask

pub returns-in-Ok-Some-Check-clause-untouched : goal.returns-in-Ok-Some-Check-clause-untouched
returns-in-Ok-Some-Check-clause-untouched g c = λ nothing. elim nothing [
  | inl is ↦ absurd (checks-begin c.check.result c.check.ensures.ends is)
  | inr (inl none) ↦ absurd (none (record { form = Check; ask = asked-check g c }))
  | inr (inr asks) ↦ absurd (check-asks g c asks)
]

pub returns-in-Ok-Some-Check-clause-ends : goal.returns-in-Ok-Some-Check-clause-ends
returns-in-Ok-Some-Check-clause-ends g c =
    ends-by _ Check c.check.result (asked-check g c) c.check.ensures.ends (record {
      only = λ is. let ends = rw is at c.check.ensures.ends in absurd cc;
      always = λ asks. absurd (check-asks g c asks);
    })

pub returns-in-Ok-Some-Check-clause-makes : goal.returns-in-Ok-Some-Check-clause-makes
returns-in-Ok-Some-Check-clause-makes g c = λ sizes asks. absurd (check-no-image g c sizes asks.ask)

pub returns-in-Ok-Some-Check-clause-checks : goal.returns-in-Ok-Some-Check-clause-checks
returns-in-Ok-Some-Check-clause-checks g c =
    λ ask. (c.check.ensures.checks, c.check.ensures.unwritten.0, c.check.ensures.unwritten.1, refl)

pub returns-in-Ok-Some-Check-clause-follows : goal.returns-in-Ok-Some-Check-clause-follows
returns-in-Ok-Some-Check-clause-follows g c = λ events state told stands. record {
  run = λ ask input left. absurd (check-no-run g c ask);
  lines = λ seed count asks. absurd (check-no-lines g c seed count asks.ask);
}

pub returns-in-Ok-Some-Check-clause-refuses : goal.returns-in-Ok-Some-Check-clause-refuses
returns-in-Ok-Some-Check-clause-refuses g c = record {
  refuses = λ events failure asks told unsound. elim asks [
    | inl run ↦ absurd (check-no-run g c run)
    | inr lines ↦ absurd (check-no-lines g c lines.0 lines.1 lines.2.ask)
  ];
  told = λ is. let ends = rw is at c.check.ensures.ends in absurd cc;
  unsound = λ events is told. let ends = rw is at c.check.ensures.ends in absurd cc;
}

pub returns-in-Ok-Some-Check-clause-crashes : goal.returns-in-Ok-Some-Check-clause-crashes
returns-in-Ok-Some-Check-clause-crashes g c = λ events after state told now stands. record {
  run = λ ask. absurd (check-no-run g c ask);
  lines = λ seed count asks. absurd (check-no-lines g c seed count asks.ask);
}

pub returns-in-Ok-Some-Check-clause-takes : goal.returns-in-Ok-Some-Check-clause-takes
returns-in-Ok-Some-Check-clause-takes g c = (λ ask. absurd (check-no-run g c ask), λ other. refl)

pub returns-in-Ok-Some-Check-clause-causes : goal.returns-in-Ok-Some-Check-clause-causes
returns-in-Ok-Some-Check-clause-causes g c =
    for-cause (record {
      source = inr ((λ is. let ends = rw is at c.check.ensures.ends in absurd cc), refl);
      sink = c.check.ensures.sink_fault;
      disk = c.check.ensures.disk_fault;
    })
    (λ causes events told nothing. record {
      runs = λ ask sound script. absurd (check-no-run g c ask);
      generates = λ seed count asks sound. absurd (check-no-lines g c seed count asks.ask);
      checks = λ ask sound. checks-done nothing c.check.result events _ _ _ causes told c.check.ensures.checks sound;
      refuses = λ asks unsound. elim asks [
        | inl run ↦ absurd (check-no-run g c run)
        | inr lines ↦ absurd (check-no-lines g c lines.0 lines.1 lines.2.ask)
      ];
      finds = λ ask unsound. checks-found nothing c.check.result events _ _ _ causes told c.check.ensures.checks
          unsound;
      makes = λ sizes asks. absurd (check-no-image g c sizes asks.ask);
    })

-- ---- the generator's lines were asked for

asked-lines : (g : Over) (c : goal.After-generate g)
    → AskForLines (texts c.args.words.now.items) c.in-Ok-Some-Generate.seed c.in-Ok-Some-Generate.count
asked-lines g c =
    let found = rw c.in-Ok-Some-Generate.field-0-is at c.in-Ok-Some-Generate.ensures.found in
    subst (λ items. AskForLines (texts items) c.in-Ok-Some-Generate.seed c.in-Ok-Some-Generate.count)
    c.deref.ensures.value (rw c.in-Ok-Some-Generate.field-0-0-is at found)

same-seed : (g : Over) (c : goal.After-generate g) (seed count : ℕ)
    → AskForLines (texts c.args.words.now.items) seed count → c.in-Ok-Some-Generate.seed ≡ seed
same-seed g c seed count ask =
    one_seed (texts c.args.words.now.items) c.in-Ok-Some-Generate.seed c.in-Ok-Some-Generate.count seed count
    (asked-lines g c) ask

same-count : (g : Over) (c : goal.After-generate g) (seed count : ℕ)
    → AskForLines (texts c.args.words.now.items) seed count → c.in-Ok-Some-Generate.count ≡ count
same-count g c seed count ask =
    one_count (texts c.args.words.now.items) c.in-Ok-Some-Generate.seed c.in-Ok-Some-Generate.count seed count
    (asked-lines g c) ask

lines-no-image : (g : Over) (c : goal.After-generate g) (sizes : Sizes)
    → AskForImage (texts c.args.words.now.items) sizes → ⊥
lines-no-image g c sizes ask =
    other-form _ (Generate c.in-Ok-Some-Generate.seed c.in-Ok-Some-Generate.count) (Mkfs sizes) (asked-lines g c) ask
    (omega arith)

lines-no-run : (g : Over) (c : goal.After-generate g) → texts c.args.words.now.items ≡ run_words → ⊥
lines-no-run g c ask = other-form _ (Generate c.in-Ok-Some-Generate.seed c.in-Ok-Some-Generate.count) Run
    (asked-lines g c) ask (omega arith)

lines-form : (g : Over) (c : goal.After-generate g) → HaveForm (texts c.args.words.now.items)
lines-form g c = record {
  form = Generate c.in-Ok-Some-Generate.seed c.in-Ok-Some-Generate.count;
  ask = asked-lines g c;
}

-- more lines than may be drawn are refused
too-many : (g : Over) (c : goal.After-generate g) → AskForTooMany c.args.words.now.items
    → c.generate.result ≡ status.Sizes
too-many g c many =
    let counts = same-count g c many.seed many.count many.ask in
    c.generate.ensures.sizes.1 (omega (arith, counts, many.many))

pub returns-in-Ok-Some-Generate-clause-words : goal.returns-in-Ok-Some-Generate-clause-words
returns-in-Ok-Some-Generate-clause-words g c = record {
  only = λ is. let ends = rw is at c.generate.ensures.ends in absurd cc;
  always = λ none. absurd (none (lines-form g c));
}

pub returns-in-Ok-Some-Generate-clause-untouched : goal.returns-in-Ok-Some-Generate-clause-untouched
returns-in-Ok-Some-Generate-clause-untouched g c = λ nothing.
    let refused : c.generate.result ≡ status.Sizes = elim nothing [
      | inl is ↦ generates-begin c.generate.result c.generate.ensures.ends is
      | inr (inl none) ↦ absurd (none (lines-form g c))
      | inr (inr (inl unserved)) ↦ absurd (lines-no-image g c unserved.sizes unserved.ask)
      | inr (inr (inr many)) ↦ too-many g c many
    ] in
    let kept = c.generate.ensures.untouched refused in
    (kept.0, refl, kept.1)

pub returns-in-Ok-Some-Generate-clause-ends : goal.returns-in-Ok-Some-Generate-clause-ends
returns-in-Ok-Some-Generate-clause-ends g c =
    ends-by _ (Generate c.in-Ok-Some-Generate.seed c.in-Ok-Some-Generate.count) c.generate.result
    (asked-lines g c) c.generate.ensures.ends (record {
      only = λ is. inr (record {
        seed = c.in-Ok-Some-Generate.seed;
        count = c.in-Ok-Some-Generate.count;
        ask = asked-lines g c;
        many = c.generate.ensures.sizes.0 is;
      });
      always = λ asks. elim asks [
        | inl unserved ↦ absurd (lines-no-image g c unserved.sizes unserved.ask)
        | inr many ↦ inl (too-many g c many)
      ];
    })

pub returns-in-Ok-Some-Generate-clause-makes : goal.returns-in-Ok-Some-Generate-clause-makes
returns-in-Ok-Some-Generate-clause-makes g c = λ sizes asks. absurd (lines-no-image g c sizes asks.ask)

pub returns-in-Ok-Some-Generate-clause-checks : goal.returns-in-Ok-Some-Generate-clause-checks
returns-in-Ok-Some-Generate-clause-checks g c = λ ask.
    absurd (other-form _ (Generate c.in-Ok-Some-Generate.seed c.in-Ok-Some-Generate.count) Check (asked-lines g c) ask
    (omega arith))

pub returns-in-Ok-Some-Generate-clause-follows : goal.returns-in-Ok-Some-Generate-clause-follows
returns-in-Ok-Some-Generate-clause-follows g c = λ events state told stands. record {
  run = λ ask input left. absurd (lines-no-run g c ask);
  lines = λ seed count asks.
      let seeds = same-seed g c seed count asks.ask in
      let counts = same-count g c seed count asks.ask in
      rw (← seeds, ← counts) (c.generate.ensures.generates events state (omega (arith, counts, asks.few)) told stands);
}

pub returns-in-Ok-Some-Generate-clause-refuses : goal.returns-in-Ok-Some-Generate-clause-refuses
returns-in-Ok-Some-Generate-clause-refuses g c = record {
  refuses = λ events failure asks told unsound. elim asks [
    | inl run ↦ absurd (lines-no-run g c run)
    | inr lines ↦
        let counts = same-count g c lines.0 lines.1 lines.2.ask in
        (c.generate.ensures.refuses events failure (omega (arith, counts, lines.2.few)) told unsound, refl)
  ];
  told = λ is.
      let says = c.generate.ensures.told is in
      inr (
        c.in-Ok-Some-Generate.seed,
        c.in-Ok-Some-Generate.count,
        record { ask = asked-lines g c; few = says.0 },
        says.1,
      );
  unsound = λ events is told sound. c.generate.ensures.unsound events told is sound;
}

pub returns-in-Ok-Some-Generate-clause-crashes : goal.returns-in-Ok-Some-Generate-clause-crashes
returns-in-Ok-Some-Generate-clause-crashes g c = λ events after state told now stands. record {
  run = λ ask. absurd (lines-no-run g c ask);
  lines = λ seed count asks.
      let seeds = same-seed g c seed count asks.ask in
      let counts = same-count g c seed count asks.ask in
      rw (← seeds, ← counts) (c.generate.ensures.crashes events after state (omega (arith, counts, asks.few)) told now
      stands);
}

pub returns-in-Ok-Some-Generate-clause-takes : goal.returns-in-Ok-Some-Generate-clause-takes
returns-in-Ok-Some-Generate-clause-takes g c = (λ ask. absurd (lines-no-run g c ask), λ other. refl)

lines-no-check : (g : Over) (c : goal.After-generate g) → texts c.args.words.now.items ≡ check_words → ⊥
lines-no-check g c ask = other-form _ (Generate c.in-Ok-Some-Generate.seed c.in-Ok-Some-Generate.count) Check
    (asked-lines g c) ask (omega arith)

pub returns-in-Ok-Some-Generate-clause-causes : goal.returns-in-Ok-Some-Generate-clause-causes
returns-in-Ok-Some-Generate-clause-causes g c =
    for-cause (record {
      source = inr ((λ is. let ends = rw is at c.generate.ensures.ends in absurd cc), refl);
      sink = c.generate.ensures.sink_fault;
      disk = c.generate.ensures.disk_fault;
    })
    (λ causes events told nothing.
    record {
      runs = λ ask sound script. absurd (lines-no-run g c ask);
      generates = λ seed count asks sound.
          let stands = state-sound (content events) sound in
          let counts = same-count g c seed count asks.ask in
          generates-ends nothing c.generate.result stands.0 c.in-Ok-Some-Generate.seed c.in-Ok-Some-Generate.count
          events _ _ _ causes
          (c.generate.ensures.generates events stands.0 (omega (arith, counts, asks.few)) told stands.1);
      checks = λ ask sound. absurd (lines-no-check g c ask);
      refuses = λ asks unsound. elim asks [
        | inl run ↦ absurd (lines-no-run g c run)
        | inr lines ↦
            let failure = failure-found (content events) unsound in
            let counts = same-count g c lines.0 lines.1 lines.2.ask in
            refuses-ends nothing c.generate.result _ _ _ causes
            (c.generate.ensures.refuses events failure.0 (omega (arith, counts, lines.2.few)) told failure.1).put
      ];
      finds = λ ask unsound. absurd (lines-no-check g c ask);
      makes = λ sizes asks. absurd (lines-no-image g c sizes asks.ask);
    })

-- ---- words of no form ask for nothing

formless : (g : Over) (c : goal.In-Ok-None g) (form : Form) → AskFor (texts c.args.words.now.items) form → ⊥
formless g c form ask = (rw c.in-Ok-None.field-0-is at c.in-Ok-None.ensures.none)
    (record { form = form; ask = subst (λ items. AskFor (texts items) form) (sym c.deref.ensures.value) ask })

pub returns-in-Ok-None-clause-words : goal.returns-in-Ok-None-clause-words
returns-in-Ok-None-clause-words g c = record {
  only = λ is have. formless g c have.form have.ask;
  always = λ none. inl refl;
}

pub returns-in-Ok-None-clause-makes : goal.returns-in-Ok-None-clause-makes
returns-in-Ok-None-clause-makes g c = λ sizes asks. absurd (formless g c (Mkfs sizes) asks.ask)

pub returns-in-Ok-None-clause-ends : goal.returns-in-Ok-None-clause-ends
returns-in-Ok-None-clause-ends g c = record {
  sizes = record {
    only = λ is. absurd cc;
    always = λ asks. elim asks [
      | inl unserved ↦ absurd (formless g c (Mkfs unserved.sizes) unserved.ask)
      | inr many ↦ absurd (formless g c (Generate many.seed many.count) many.ask)
    ];
  };
  makers = λ sizes ask. absurd (formless g c (Mkfs sizes) ask);
  runners = λ ask. absurd (formless g c Run ask);
  checkers = λ ask. absurd (formless g c Check ask);
  generators = λ seed count ask. absurd (formless g c (Generate seed count) ask);
}

pub returns-in-Ok-None-clause-checks : goal.returns-in-Ok-None-clause-checks
returns-in-Ok-None-clause-checks g c = λ ask. absurd (formless g c Check ask)

pub returns-in-Ok-None-clause-follows : goal.returns-in-Ok-None-clause-follows
returns-in-Ok-None-clause-follows g c = λ events state told stands. record {
  run = λ ask input left. absurd (formless g c Run ask);
  lines = λ seed count asks. absurd (formless g c (Generate seed count) asks.ask);
}

pub returns-in-Ok-None-clause-refuses : goal.returns-in-Ok-None-clause-refuses
returns-in-Ok-None-clause-refuses g c = record {
  refuses = λ events failure asks told unsound. elim asks [
    | inl run ↦ absurd (formless g c Run run)
    | inr lines ↦ absurd (formless g c (Generate lines.0 lines.1) lines.2.ask)
  ];
  told = λ is. absurd cc;
  unsound = λ events is told. absurd cc;
}

pub returns-in-Ok-None-clause-crashes : goal.returns-in-Ok-None-clause-crashes
returns-in-Ok-None-clause-crashes g c = λ events after state told now stands. record {
  run = λ ask. absurd (formless g c Run ask);
  lines = λ seed count asks. absurd (formless g c (Generate seed count) asks.ask);
}

pub returns-in-Ok-None-clause-takes : goal.returns-in-Ok-None-clause-takes
returns-in-Ok-None-clause-takes g c = (λ ask. absurd (formless g c Run ask), λ other. refl)

pub returns-in-Ok-None-clause-causes : goal.returns-in-Ok-None-clause-causes
returns-in-Ok-None-clause-causes g c =
    for-cause (record {
      source = inr ((λ is. absurd cc), refl);
      sink = inr ((λ is. absurd cc), refl);
      disk = inr ((λ is. absurd cc), refl);
    })
    (λ causes events told nothing. record {
      runs = λ ask sound script. absurd (formless g c Run ask);
      generates = λ seed count asks sound. absurd (formless g c (Generate seed count) asks.ask);
      checks = λ ask sound. absurd (formless g c Check ask);
      refuses = λ asks unsound. elim asks [
        | inl run ↦ absurd (formless g c Run run)
        | inr lines ↦ absurd (formless g c (Generate lines.0 lines.1) lines.2.ask)
      ];
      finds = λ ask unsound. absurd (formless g c Check ask);
      makes = λ sizes asks. absurd (formless g c (Mkfs sizes) asks.ask);
    })

-- ---- there was no memory to read the words, and nothing was done

pub returns-in-Err-clause-words : goal.returns-in-Err-clause-words
returns-in-Err-clause-words g c = record { only = λ is. absurd cc; always = λ none. inr refl }

pub returns-in-Err-clause-ends : goal.returns-in-Err-clause-ends
returns-in-Err-clause-ends g c = record {
  sizes = record { only = λ is. absurd cc; always = λ asks. inr refl };
  makers = λ sizes ask. refl;
  runners = λ ask. refl;
  checkers = λ ask. refl;
  generators = λ seed count ask. refl;
}

pub returns-in-Err-clause-makes : goal.returns-in-Err-clause-makes
returns-in-Err-clause-makes g c = λ sizes asks. (
  record {
    calls = λ made. absurd cc;
    fresh = λ events told made. absurd cc;
    stops = λ is. absurd cc;
    wants = λ is. inr (λ events told. record { after = events; told = told; front = inl refl }, λ none. refl);
    said = refl;
  },
  refl,
)

pub returns-in-Err-clause-checks : goal.returns-in-Err-clause-checks
returns-in-Err-clause-checks g c = λ ask. (refl, refl, refl, refl)

pub returns-in-Err-clause-follows : goal.returns-in-Err-clause-follows
returns-in-Err-clause-follows g c = λ events state told stands. record {
  run = λ ask input left. inl (record {
    unopened = record { touched = inl (inl told); silent = refl };
    untaken = left;
  });
  lines = λ seed count asks. inl (record { touched = inl (inl told); silent = refl });
}

pub returns-in-Err-clause-refuses : goal.returns-in-Err-clause-refuses
returns-in-Err-clause-refuses g c = record {
  refuses = λ events failure asks told unsound.
      (record { put = refl; looked_at = inl told; unwritten = λ judged. absurd cc }, refl);
  told = λ is. absurd cc;
  unsound = λ events is told. absurd cc;
}

pub returns-in-Err-clause-crashes : goal.returns-in-Err-clause-crashes
returns-in-Err-clause-crashes g c = λ events after state told now stands.
    let same : events ≡ after = same_Recorded events after (sym told ∙ now) in
    rw (← same) (record {
      run = λ ask. unread-leaves state (Input (g.S.Source.bytes_left c.args.source.now)) events
          (g.K.Sink.bytes_held c.args.sink.now);
      lines = λ seed count asks. unread-leaves state (Drawn seed count) events (g.K.Sink.bytes_held c.args.sink.now);
    })

pub returns-in-Err-clause-takes : goal.returns-in-Err-clause-takes
returns-in-Err-clause-takes g c = (λ ask. unread-taken (g.S.Source.bytes_left c.args.source.now), λ other. refl)

pub returns-in-Err-clause-causes : goal.returns-in-Err-clause-causes
returns-in-Err-clause-causes g c =
    for-cause (record {
      source = inr ((λ is. absurd cc), refl);
      sink = inr ((λ is. absurd cc), refl);
      disk = inr ((λ is. absurd cc), refl);
    })
    (λ causes events told nothing. record {
      runs = λ ask sound script. inr refl;
      generates = λ seed count asks sound. inr refl;
      checks = λ ask sound. inr refl;
      refuses = λ asks unsound. inr refl;
      finds = λ ask unsound. inr refl;
      makes = λ sizes asks. inr refl;
    })
