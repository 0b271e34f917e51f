use Rattle.mat_path.proofs.Bools.{and_false_right}
use Rattle.std.proofs.Common.{rules, sym, subst, IfOk, length, ◌≡◌, true, false}
use Rattle.std.specs.List.{list_any}
use Rattle.mat_model.specs.declared.answers.Reply.{Reply}
use Rattle.mat_model.specs.Gate.{Served, is_live}
use Rattle.mat_model.specs.Rows.{overlaps_row}
use Rattle.buckd.specs.Daemon.{Serves, book_of}
use Rattle.buckd.proofs.Kept.{declare-alone, kept-entered}
use Rattle.buckd.proofs.daemon.Daemon.declare.Goals as goal

pub declare_clear-requires-clause-clear : goal.declare_clear-requires-clause-clear
declare_clear-requires-clause-clear c =
    let live : is_live c.args.command (book_of c.args.self.now) ≡ true = search rules in
    and_false_right (is_live c.args.command (book_of c.args.self.now)) (list_any (overlaps_row c.args.path.now) c.args.self.now.rows.items)
    c.requires.clear live

pub returns-clause-served : goal.returns-clause-served
returns-clause-served c =
    let live : is_live c.args.command (book_of c.args.self.now) ≡ true = search rules in
    let clear : list_any (overlaps_row c.args.path.now) c.args.self.now.rows.items ≡ false =
    and_false_right (is_live c.args.command (book_of c.args.self.now)) (list_any (overlaps_row c.args.path.now) c.args.self.now.rows.items)
    c.requires.clear live in
    subst (λ (served : Served). IfOk c.declare_clear.result (λ (reply : Reply). Serves served c.args.self.now c.declare_clear.new.self reply))
    (sym (declare-alone (length c.args.self.now.history.items) c.args.command c.args.path.now c.args.tree (book_of c.args.self.now) live clear))
    c.declare_clear.ensures.served

pub returns-then-not-is_live-clause-kept : goal.returns-then-not-is_live-clause-kept
returns-then-not-is_live-clause-kept c = λ entry same. kept-entered c.args.self.now.history.items entry c.args.self.now c.requires.kept
