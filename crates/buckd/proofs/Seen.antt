-- What a listing of a part of a disk has, where rows cover all that the disk has.
use Rattle.mat_tree.specs.Trees.{ascends}
use Rattle.std.proofs.Common.{◌≡◌, ℕ, true, false, List, ◌++◌, Option, None, cond, refl, sym, ap, ◌∙◌}
use Rattle.std.specs.List.{list_any}
use Rattle.std.specs.Option.{option_map}
use Rattle.mat_tree.specs.declared.flat.Flat.{Flat}
use Rattle.mat_tree.specs.Parts.{Node, Part, HasTree, below, declared_by}
use Rattle.mat_model.specs.declared.book.Row.{Row}
use Rattle.mat_model.specs.Rows.{are_apart, covers}
use Rattle.buckd.specs.Making.{shown_by}
use Rattle.buckd.specs.Shows.{AreOrdered, IsCovered, nodes_there}
use Rattle.buckd.proofs.ListedOnce.{listed_once}
use Rattle.buckd.proofs.SeenOrder.{there-ascends}
use Rattle.buckd.proofs.SeenWhat.{there-what}

-- a disk that has nodes only where a row covers the place is shown whole
covered_shown : (content : Part) (rows : List Row) → IsCovered content rows → (place : List (List ℕ)) →
    shown_by content place ≡ cond (list_any (covers place) rows) (shown_by content place) None
covered_shown content rows covered place =
    elim (list_any (covers place) rows) as
    (λ b. list_any (covers place) rows ≡ b → shown_by content place ≡ cond b (shown_by content place) None)
    [ true ↦ λ there. refl | false ↦ λ there. ap (λ (o : Option Node). option_map declared_by o) (covered place there) ] refl

-- a listing below a path, in order, of what a disk has there is the nodes of the rows that the disk has
pub listed-there : (path : List (List ℕ)) (content : Part) (rows : List Row) (nodes : List Flat) →
    AreOrdered rows → are_apart rows ≡ true → IsCovered content rows →
    ascends nodes ≡ true → HasTree (below path content) nodes → nodes ≡ nodes_there path rows (shown_by content)
listed-there path content rows nodes ordered apart covered order holds =
    listed_once nodes (nodes_there path rows (shown_by content)) order (there-ascends path rows (shown_by content) ordered apart)
    (λ rel. sym (holds rel) ∙ covered_shown content rows covered (path ++ rel) ∙ sym (there-what path rows (shown_by content) rel))
