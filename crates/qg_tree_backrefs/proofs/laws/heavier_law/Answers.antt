use Rattle.qg_tree_backrefs.proofs.Sums.{BookGetsHeavier-then, held-heavier}
use Rattle.qg_tree_backrefs.proofs.RecordsFollowed.{BookGetsHeavier-followed, BookGetsHeavier-step}
use Rattle.qg_tree_backrefs.proofs.Weighs.{GetsHeavier-added, GetsHeavier-dropped, GetsHeavier-exchanged}
use Rattle.qg_tree_backrefs.proofs.laws.heavier_law.Goals as goal

pub returns-clause-adds : goal.returns-clause-adds
returns-clause-adds c old new at what reference old_is new_is adds =
    GetsHeavier-added old new at what reference old_is new_is adds

pub returns-clause-drops : goal.returns-clause-drops
returns-clause-drops c old new at reference old_is new_is drops =
    GetsHeavier-dropped old new at reference old_is new_is drops

pub returns-clause-exchanges : goal.returns-clause-exchanges
returns-clause-exchanges c old new exchange old_is new_is made =
    GetsHeavier-exchanged old new exchange old_is new_is made

pub returns-clause-step : goal.returns-clause-step
returns-clause-step c before after telling before_is after_is step none =
    BookGetsHeavier-step before after telling step before_is after_is none

pub returns-clause-follows : goal.returns-clause-follows
returns-clause-follows c before after tellings before_is after_is follows fits =
    BookGetsHeavier-followed before after tellings before_is after_is follows fits

pub returns-clause-sums : goal.returns-clause-sums
returns-clause-sums c old mid new first second before after =
    BookGetsHeavier-then old mid new first second before after

pub returns-clause-weighs : goal.returns-clause-weighs
returns-clause-weighs c old new most heavier = held-heavier old new most heavier
