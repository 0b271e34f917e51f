use Rattle.path_trie.proofs.tests.cover_of.Given as goal

abbrev pub ghosts-cover_in : goal.ghosts-cover_in
ghosts-cover_in a = record { name = a.blank.name; parts = a.blank.parts }
