use Rattle.std.proofs.Common.{not, ap, sym, ◌∙◌}
use Rattle.std.specs.List.{filter}
use Rattle.path_trie.specs.Entries.{is_outside, is_under}
use Rattle.path_trie.proofs.Parted.{none_taken, taken_kept, taken_less}
use Rattle.path_trie.proofs.trie.Trie.clear_under.Goals as goal

pub entries-smaller : goal.entries-smaller
entries-smaller g c =
    taken_less (is_under c.args.path.now) c.entries.self c.take_under.new.self c.take_under.result c.take_under.ensures.list c.take_under.ensures.entry
    (sym c.is_some.ensures ∙ c.if-is_some.true)

pub entries-preserved : goal.entries-preserved
entries-preserved g c =
    ap (filter (is_outside c.args.path.now)) c.take_under.ensures.list
    ∙ taken_kept (is_under c.args.path.now) (is_outside c.args.path.now) (λ x e. ap not e) c.entries.self ∙ c.entries.invariant

pub returns : goal.returns
returns g c =
    none_taken (is_under c.args.path.now) (is_outside c.args.path.now) (λ x e. ap not e) c.entries.self c.take_under.new.self c.take_under.result
    c.take_under.ensures.list c.take_under.ensures.entry (sym c.is_some.ensures ∙ c.if-is_some.false) ∙ c.entries.invariant
