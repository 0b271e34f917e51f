use Rattle.std.proofs.Common.{◌≡◌, ℕ, List, true, subst}
use Rattle.mat_path.specs.Names.{is_rel}
use Rattle.mat_path.proofs.ReadLemmas.{rel_read_back}
use Rattle.mat_path.proofs.rel.Rel.write.Goals as goal

pub returns-clause-again : goal.returns-clause-again
returns-clause-again c = rel_read_back c.args.self.now (subst (λ (v : List (List ℕ)). is_rel v ≡ true) c.self.view_is c.self.invariant)
