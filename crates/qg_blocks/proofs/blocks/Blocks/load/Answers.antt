use Rattle.std.proofs.Common.{◌∙◌, sym, ap, subst, nat_eq, refl, List, ℕ}
use Rattle.std.specs.Prelude.{Option}
use Rattle.std.proofs.lemmas.Result.{on_ok_weaker, on_err_weaker}
use Rattle.qg_device.specs.History.{History, content}
use Rattle.qg_node.specs.declared.node.Node.{Node}
use Rattle.qg_blocks.specs.NodesInMemory.{Held}
use Rattle.qg_blocks.specs.Standing.{standing}
use Rattle.qg_blocks.specs.NodesFound.{Answers, BreaksForCause, IsBacked, clean_at, first_of, fresh_at}
use Rattle.qg_blocks.proofs.Backing.{IsBacked-promoted}
use Rattle.qg_blocks.proofs.Telling.{IsAtHand-backed, IsSome-first, IsSome-second, IsSome-promoted, loaded-found}
use Rattle.qg_blocks.proofs.Telling.{lookup-promoted, none_of, nothing-held, promoted-absent, told-unbroken}
use Rattle.qg_blocks.proofs.blocks.Blocks.load.Goals as goal

-- ---- a fresh node

pub returns-then-is_fresh-clause-stays : goal.returns-then-is_fresh-clause-stays
returns-then-is_fresh-clause-stays g c = record { draft = refl; bound = refl; backed = c.requires.backed }

pub returns-then-is_fresh-clause-lent : goal.returns-then-is_fresh-clause-lent
returns-then-is_fresh-clause-lent g c =
    IsAtHand-backed c.args.self.now c.args.self.now.draft (g.D.Disk.history c.args.disk.now) c.args.address refl
    c.requires.backed
    (IsSome-first (fresh_at c.args.self.now.draft c.args.address) (clean_at c.args.self.now c.args.address)
    (sym c.is_fresh.ensures ∙ c.if-is_fresh.true))

pub returns-then-is_fresh-clause-answers : goal.returns-then-is_fresh-clause-answers
returns-then-is_fresh-clause-answers g c events told =
    loaded-found c.args.self.now c.args.self.now.draft (g.D.Disk.history c.args.disk.now) events c.args.address refl
    c.requires.backed told (returns-then-is_fresh-clause-lent g c).held

-- ---- a clean node

pub returns-then-touch-clause-stays : goal.returns-then-touch-clause-stays
returns-then-touch-clause-stays g c = record {
  draft = ap (λ (h : Held). h.draft) c.touch.ensures.same;
  bound = ap (λ (h : Held). h.bound) c.touch.ensures.same;
  backed = rw c.touch.ensures.same (IsBacked-promoted c.args.self.now (g.D.Disk.history c.args.disk.now) c.args.address
      c.requires.backed);
}

pub returns-then-touch-clause-lent : goal.returns-then-touch-clause-lent
returns-then-touch-clause-lent g c =
    let stays = returns-then-touch-clause-stays g c in
    IsAtHand-backed c.touch.new.self c.args.self.now.draft (g.D.Disk.history c.args.disk.now) c.args.address stays.draft
    stays.backed
    (rw c.touch.ensures.same
    (IsSome-second (fresh_at c.args.self.now.draft c.args.address) _
    (IsSome-promoted (nat_eq c.args.address) c.args.self.now.clean (sym c.touch.ensures.found ∙ c.if-touch.true))))

pub returns-then-touch-clause-again : goal.returns-then-touch-clause-again
returns-then-touch-clause-again g c some = (
  refl,
  rw c.touch.ensures.same
      (ap (λ (clean : Option Node). first_of (fresh_at c.args.self.now.draft c.args.address) clean)
      (lookup-promoted (nat_eq c.args.address) c.args.self.now.clean)),
)

pub returns-then-touch-clause-answers : goal.returns-then-touch-clause-answers
returns-then-touch-clause-answers g c events told =
    let stays = returns-then-touch-clause-stays g c in
    loaded-found c.touch.new.self c.args.self.now.draft (g.D.Disk.history c.args.disk.now) events c.args.address
    stays.draft stays.backed told (returns-then-touch-clause-lent g c).held

-- ---- any other

pub fetch-requires-clause-backed : goal.fetch-requires-clause-backed
fetch-requires-clause-backed g c =
    rw c.touch.ensures.same (IsBacked-promoted c.args.self.now (g.D.Disk.history c.args.disk.now) c.args.address
    c.requires.backed)

pub returns-clause-stays : goal.returns-clause-stays
returns-clause-stays g c = record {
  draft = c.fetch.ensures.stays.draft ∙ ap (λ (h : Held). h.draft) c.touch.ensures.same;
  bound = c.fetch.ensures.stays.bound ∙ ap (λ (h : Held). h.bound) c.touch.ensures.same;
  backed = c.fetch.ensures.stays.backed;
}

pub returns-clause-lent : goal.returns-clause-lent
returns-clause-lent g c =
    let backed = subst (λ (history : History). IsBacked c.fetch.new.self history) c.fetch.ensures.disk.0
    c.fetch.ensures.stays.backed in
    on_ok_weaker c.fetch.result
    (λ held. IsAtHand-backed c.fetch.new.self c.args.self.now.draft (g.D.Disk.history c.args.disk.now) c.args.address
    (c.fetch.ensures.stays.draft ∙ ap (λ (h : Held). h.draft) c.touch.ensures.same) backed held)
    c.fetch.ensures.held

pub returns-clause-sound : goal.returns-clause-sound
returns-clause-sound g c node =
    told-unbroken c.fetch.result c.args.self.now.draft (g.D.Disk.history c.args.disk.now) c.args.address node
    (none_of (fresh_at c.args.self.now.draft c.args.address) (sym c.is_fresh.ensures ∙ c.if-is_fresh.false))
    (λ events told. subst (λ (held : Held). Answers c.fetch.result c.args.address
    (standing held.draft.sizes (content events) c.args.address)) c.touch.ensures.same
    (c.fetch.ensures.answers events told))

pub returns-clause-err : goal.returns-clause-err
returns-clause-err g c =
    let absent = promoted-absent (nat_eq c.args.address) c.args.self.now.clean (sym c.touch.ensures.found
    ∙ c.if-touch.false) in
    on_err_weaker c.fetch.result
    (λ same. same ∙ c.touch.ensures.same
    ∙ ap (λ (clean : List (ℕ × Node)). record c.args.self.now { clean = clean }) absent)
    c.fetch.ensures.err

pub returns-clause-again : goal.returns-clause-again
returns-clause-again g c some =
    absurd (nothing-held (fresh_at c.args.self.now.draft c.args.address) (clean_at c.args.self.now c.args.address)
    (none_of (fresh_at c.args.self.now.draft c.args.address) (sym c.is_fresh.ensures ∙ c.if-is_fresh.false))
    (sym c.touch.ensures.found ∙ c.if-touch.false) some)

pub returns-clause-broken : goal.returns-clause-broken
returns-clause-broken g c =
    subst (λ (held : Held). BreaksForCause c.fetch.result held.draft.sizes (g.D.Disk.size c.args.disk.now)
    c.args.address) c.touch.ensures.same c.fetch.ensures.broken
