use Rattle.std.proofs.Common.{◌&&◌, ap, sym, ◌∙◌, arith}
use Rattle.std.specs.List.{list_any}
use Rattle.path_trie.specs.Entries.{is_under}
use Rattle.path_trie.proofs.Onwards.{under_shown}
use Rattle.path_trie.proofs.Parted.{list_spliced, none_counted, some_counted, trie_spliced}
use Rattle.path_trie.proofs.trie.Trie.exchange.Goals as goal

pub returns-then-given-eq0-clause-both : goal.returns-then-given-eq0-clause-both
returns-then-given-eq0-clause-both g c =
    let given = under_shown c.self.inside.root c.names.result.now c.args.path.now c.args.self.now _ c.names.ensures.value c.self.view_is c.count_at-given.ensures in
    sym (ap (λ b. b && list_any (is_under c.args.path.now) c.args.other.now) (none_counted (is_under c.args.path.now) c.args.self.now _ given (omega arith)))

pub returns-then-got-eq0-clause-both : goal.returns-then-got-eq0-clause-both
returns-then-got-eq0-clause-both g c =
    let given = under_shown c.self.inside.root c.names.result.now c.args.path.now c.args.self.now _ c.names.ensures.value c.self.view_is c.count_at-given.ensures in
    let got = under_shown c.other.inside.root c.names-2.result.now c.args.path.now c.args.other.now _ c.names-2.ensures.value c.other.view_is c.count_at-got.ensures in
    sym (ap (λ b. b && list_any (is_under c.args.path.now) c.args.other.now) (some_counted (is_under c.args.path.now) c.args.self.now _ given (omega arith))
    ∙ none_counted (is_under c.args.path.now) c.args.other.now _ got (omega arith))

pub invariant_of-self : goal.invariant_of-self
invariant_of-self g c =
    trie_spliced c.self.inside.root c.other.inside.root c.exchange_at.new.node c.names-3.result.now c.self.invariant c.other.invariant c.exchange_at.ensures.well c.exchange_at.ensures.list

pub invariant_of-other : goal.invariant_of-other
invariant_of-other g c =
    trie_spliced c.other.inside.root c.self.inside.root c.exchange_at.new.other c.names-3.result.now c.other.invariant c.self.invariant c.exchange_at.ensures.other_well
    c.exchange_at.ensures.other_list

pub returns-clause-both : goal.returns-clause-both
returns-clause-both g c =
    let given = under_shown c.self.inside.root c.names.result.now c.args.path.now c.args.self.now _ c.names.ensures.value c.self.view_is c.count_at-given.ensures in
    let got = under_shown c.other.inside.root c.names-2.result.now c.args.path.now c.args.other.now _ c.names-2.ensures.value c.other.view_is c.count_at-got.ensures in
    sym (ap (λ b. b && list_any (is_under c.args.path.now) c.args.other.now) (some_counted (is_under c.args.path.now) c.args.self.now _ given (omega arith))
    ∙ some_counted (is_under c.args.path.now) c.args.other.now _ got (omega arith))

pub returns-clause-list : goal.returns-clause-list
returns-clause-list g c =
    list_spliced c.self.inside.root c.other.inside.root c.exchange_at.new.node c.names-3.result.now c.args.path.now c.args.self.now c.args.other.now
    c.names-3.ensures.value c.self.view_is c.other.view_is c.exchange_at.ensures.list

pub returns-clause-other : goal.returns-clause-other
returns-clause-other g c =
    list_spliced c.other.inside.root c.self.inside.root c.exchange_at.new.other c.names-3.result.now c.args.path.now c.args.other.now c.args.self.now
    c.names-3.ensures.value c.other.view_is c.self.view_is c.exchange_at.ensures.other_list
