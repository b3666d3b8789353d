use Rattle.qg_program.proofs.run.run.Given as goal

abbrev pub ghosts-answer_lines-L-Ledger : goal.ghosts-answer_lines-L-Ledger
ghosts-answer_lines-L-Ledger g a = record { name = a.looks.name; parts = a.looks.parts }

abbrev pub ghosts-answer_lines-M-Ledger : goal.ghosts-answer_lines-M-Ledger
ghosts-answer_lines-M-Ledger g a = record { name = a.reads.name; parts = a.reads.parts }
