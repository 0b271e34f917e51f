use Rattle.std.proofs.Common.{◌≡◌, ℕ, List, true, subst}
use Rattle.mat_path.specs.Names.{is_path}
use Rattle.mat_path.proofs.ReadLemmas.{read_back}
use Rattle.mat_path.proofs.path.Path.write.Goals as goal

pub returns-clause-again : goal.returns-clause-again
returns-clause-again c = read_back c.args.self.now (subst (λ (v : List (List ℕ)). is_path v ≡ true) c.self.view_is c.self.invariant)
