use Rattle.std.proofs.Common.{◌≢◌, sym, subst, arith}
use Rattle.std.proofs.lemmas.List.{append-nil, take_all}
use Rattle.std.proofs.lemmas.List.Elements.{All-more}
use Rattle.qg_script.specs.Reading.{IsBehindWord}
use Rattle.qg_script.proofs.Parting.{HasNoSpace, space_behind}
use Rattle.qg_script.proofs.numbers.first_word.Goals as goal

pub loop-place-preserved : goal.loop-place-preserved
loop-place-preserved c =
    All-more (λ byte. byte ≢ 32) c.args.bytes.now c.loop-place.place 0 c.loop-place-test.true c.loop-place.invariant
    c.if-byte-eq32.false

pub returns-then-byte-eq32 : goal.returns-then-byte-eq32
returns-then-byte-eq32 c = record {
  whole = c.split_at.ensures.by_index.0;
  plain = subst HasNoSpace (sym c.split_at.ensures.front) c.loop-place.invariant;
  behind = subst IsBehindWord (sym c.split_at.ensures.back)
      (space_behind c.args.bytes.now c.loop-place.place c.loop-place-test.true c.if-byte-eq32.true);
}

pub returns : goal.returns
returns c = record {
  whole = sym (append-nil c.args.bytes.now);
  plain = subst HasNoSpace (take_all c.loop-place.place c.args.bytes.now (omega arith)) c.loop-place.invariant;
  behind = tt;
}
