use Rattle.tests_of_formats.proofs.num.count_by_two_ledgers.Given as goal

abbrev pub ghosts-count_apart-L-Ledger : goal.ghosts-count_apart-L-Ledger
ghosts-count_apart-L-Ledger a = record { name = a.first.name; parts = a.first.parts }

abbrev pub ghosts-count_apart-M-Ledger : goal.ghosts-count_apart-M-Ledger
ghosts-count_apart-M-Ledger a = record { name = a.second.name; parts = a.second.parts }
