use Rattle.qg_open_image.proofs.Turned.{asked-keeps, asked-kept, asked-same, asked-there}
use Rattle.qg_open_image.proofs.turning.turn_to.Goals as goal

pub returns-clause-there : goal.returns-clause-there
returns-clause-there c =
    asked-there c.args.kept.now c.turn_to.new.self c.args.sub c.turn_to.result c.requires.fitted
    c.turn_to.ensures.turned
    c.turn_to.ensures.left c.turn_to.ensures.numbers c.turn_to.ensures.found

pub returns-clause-hand : goal.returns-clause-hand
returns-clause-hand c = λ is_so. (c.turn_to.ensures.turned is_so).owner

pub returns-clause-same : goal.returns-clause-same
returns-clause-same c =
    asked-same c.args.kept.now c.turn_to.new.self c.args.sub c.turn_to.result c.requires.fitted c.turn_to.ensures.turned
    c.turn_to.ensures.left c.turn_to.ensures.numbers

pub returns-clause-kept : goal.returns-clause-kept
returns-clause-kept c = λ history bytes kept.
    asked-kept c.args.kept.now c.turn_to.new.self c.args.sub c.turn_to.result c.requires.fitted c.turn_to.ensures.turned
    c.turn_to.ensures.left c.turn_to.ensures.numbers history bytes kept

pub returns-clause-keeps : goal.returns-clause-keeps
returns-clause-keeps c = λ state history bytes names kept keeps.
    asked-keeps c.args.kept.now c.turn_to.new.self c.args.sub c.turn_to.result c.requires.fitted
    c.turn_to.ensures.turned c.turn_to.ensures.left c.turn_to.ensures.numbers state history bytes names
    (λ numbered is_so. c.turn_to.ensures.layout history numbered is_so)
    (λ items subvolume stands is_so. c.turn_to.ensures.stands history bytes items subvolume stands is_so) kept keeps
