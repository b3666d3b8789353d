use Rattle.qg_program.proofs.generate.generate.Given as goal

abbrev pub ghosts-run_generated-L-Ledger : goal.ghosts-run_generated-L-Ledger
ghosts-run_generated-L-Ledger g a = record { name = a.looks.name; parts = a.looks.parts }

abbrev pub ghosts-run_generated-M-Ledger : goal.ghosts-run_generated-M-Ledger
ghosts-run_generated-M-Ledger g a = record { name = a.reads.name; parts = a.reads.parts }
