use Rattle.std.proofs.Common.{ℕ, List, ◌∷◌, [], ◌++◌, ap, sym, ◌∙◌}
use Rattle.std.specs.List.{filter_map}
use Rattle.std.proofs.lemmas.List.{take_all}
use Rattle.qg_items.specs.declared.quota.QgroupInfo.{QgroupInfo}
use Rattle.qg_items.specs.declared.quota.QgroupLimit.{QgroupLimit}
use Rattle.qg_image.specs.ImageState.{info_told, limit_told}
use Rattle.qg_quota.specs.QuotaKinds.{relation_told}
use Rattle.qg_quota.proofs.Lists.{filter_map-more}
use Rattle.qg_quota.proofs.told.told_by.Goals as goal

pub loop-part-preserved : goal.loop-part-preserved
loop-part-preserved c =
    let part = c.part-item.result in
    let parts = c.args.parts.now in
    let i = c.loop-part.part-index in
    record {
      infos = c.in_ok-put_part.ensures.infos
          ∙ ap (λ (list : List (ℕ × QgroupInfo)). list ++ filter_map info_told (part ∷ [])) c.loop-part.invariant.infos
          ∙ sym (filter_map-more info_told parts i part c.loop-part-test.true c.part-item.is);
      limits = c.in_ok-put_part.ensures.limits
          ∙ ap (λ (list : List (ℕ × QgroupLimit)). list ++ filter_map limit_told (part ∷ []))
          c.loop-part.invariant.limits
          ∙ sym (filter_map-more limit_told parts i part c.loop-part-test.true c.part-item.is);
      relations = c.in_ok-put_part.ensures.relations
          ∙ ap (λ (list : List (ℕ × ℕ)). list ++ filter_map relation_told (part ∷ [])) c.loop-part.invariant.relations
          ∙ sym (filter_map-more relation_told parts i part c.loop-part-test.true c.part-item.is);
    }

pub returns : goal.returns
returns c =
    let all = take_all c.loop-part.part-index c.args.parts.now c.loop-part-test.false in
    record {
      infos = c.loop-part.invariant.infos ∙ ap (filter_map info_told) all;
      limits = c.loop-part.invariant.limits ∙ ap (filter_map limit_told) all;
      relations = c.loop-part.invariant.relations ∙ ap (filter_map relation_told) all;
    }
