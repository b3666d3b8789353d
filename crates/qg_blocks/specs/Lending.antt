-- What nodes in memory become while one of them is lent (this project's own).
use Rattle.std.specs.Prelude.{◌≡◌, ℕ, Option}
use Rattle.std.specs.Borrow.{Fml, Lends, LendsSo, MutBor}
use Rattle.std.specs.Option.{OnSome}
use Rattle.qg_node.specs.declared.node.Node.{Node}
use Rattle.qg_node.specs.contracts.node.Node as node
use Rattle.qg_blocks.specs.NodesInMemory.{Held, with_node}
use Rattle.qg_blocks.specs.contracts.blocks.Blocks.{the_row}

-- another fresh node in the place of the one at an address
abbrev pub with_fresh : Held → ℕ → Node → Held
with_fresh held address node = record held { draft = with_node held.draft address node }

-- they end with the last value behind the reference as the fresh node at an address
abbrev pub LendsNode : MutBor Held → ℕ → MutBor Node → Fml
LendsNode blocks address lent = Lends the_row node.the_row blocks lent (λ node. with_fresh blocks.now address node)

-- so where one is lent; else they stay as they were
abbrev pub LendsFresh : MutBor Held → ℕ → Option (MutBor Node) → Fml
LendsFresh blocks address lent =
    LendsSo the_row node.the_row blocks lent (λ left node. OnSome lent (left ≡ with_fresh blocks.now address node))
    (λ left. left ≡ blocks.now)
