use Rattle.std.proofs.Common.{◌≤◌, ◌*◌, List, sym, ap, subst, ◌∙◌}
use Rattle.qg_super.specs.Places.{data_begin, sector}
use Rattle.qg_image.specs.Counts.{bytes_of}
use Rattle.qg_space.specs.Run.{Run}
use Rattle.qg_space.specs.Holding.{AscendApart, Holding}
use Rattle.qg_space.specs.Lying.{present_of, LieApart}
use Rattle.qg_space.proofs.Taken.{present-apart}
use Rattle.qg_space.proofs.space.Space.taken_bytes.Goals as goal

pub present_bytes-requires-clause-apart : goal.present_bytes-requires-clause-apart
present_bytes-requires-clause-apart c =
    let s = c.self.inside in
    let Apart : List Run → Type 0 = λ runs. LieApart s.sizes data_begin runs in
    subst Apart (sym c.deref.ensures.value) c.self.invariant.apart

pub returns-clause-bytes : goal.returns-clause-bytes
returns-clause-bytes c =
    c.present_bytes.ensures.bytes ∙ ap (λ (runs : List Run). bytes_of (present_of runs)) c.deref.ensures.value
    ∙ ap (λ (h : Holding). bytes_of h.runs) c.self.view_is

pub returns-clause-most : goal.returns-clause-most
returns-clause-most c =
    let Few : Holding → Type 0 = λ h. c.present_bytes.result ≤ h.sizes.sectors * sector in
    subst Few c.self.view_is c.present_bytes.ensures.most

pub returns-clause-apart : goal.returns-clause-apart
returns-clause-apart c =
    let s = c.self.inside in
    let Apart : Holding → Type 0 = λ h. AscendApart h.sizes data_begin h.runs in
    subst Apart c.self.view_is (present-apart s.sizes data_begin s.runs.items c.self.invariant.apart)
