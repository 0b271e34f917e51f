use Rattle.std.proofs.Common.{List, sym, subst, ap, ◌∙◌}
use Rattle.mat_model.specs.declared.entries.Entry.{Entry}
use Rattle.mat_model.specs.History.{book_of}
use Rattle.mat_model.specs.Legal.{FollowsFrom}
use Rattle.buckd.specs.Following.{new_daemon}
use Rattle.buckd.proofs.daemon.Daemon.into_parts.Goals as goal

pub returns-clause-follows : goal.returns-clause-follows
returns-clause-follows c = record {
  follows = subst (λ (history : List Entry). FollowsFrom new_daemon history) (sym c.into_run.ensures.history) c.requires.follows.lawful.follows;
  book = c.into_run.ensures.book ∙ c.requires.follows.lawful.book
      ∙ ap (λ (history : List Entry). book_of new_daemon history) (sym c.into_run.ensures.history);
}
