-- The index gives the place of the first list, or the search does.
use Rattle.std.proofs.Common.{rules, tests, ◌∙◌, ap, ℕ, Bool, List, map, string_bytes, String, Vec, Global}
use Rattle.std.proofs.lemmas.Iterator.{YieldsList-from_slice}
use Rattle.std.proofs.lemmas.Iterator.Adapters.{position_from-zero}
use Rattle.std.proofs.lemmas.Iterator.Search.{position_from_yields_List}
use Rattle.std.specs.List.{position_from}
use Rattle.isort_settings.specs.Holds.{holds}
use Rattle.isort_settings.specs.OwnLists.{modules_of_lists, IsIndexOf}
use Rattle.isort_settings.proofs.Places.{place_from-map}
use Rattle.isort_settings.proofs.own_lists.OwnLists.holder.Goals as goal

pub returns-in-Some : goal.returns-in-Some
returns-in-Some c =
    let indexed : IsIndexOf (modules_of_lists c.self.inside.kept.list.items) c.in-Some.index.places = rw c.in-Some.is at c.self.invariant in
    c.get.ensures ∙ indexed c.args.«module».now ∙ ap (position_from (λ list. holds list c.args.«module».now) 0) c.self.view_is

pub returns-in-None : goal.returns-in-None
returns-in-None c =
    let lists = c.as_slice.result.now in
    let test : Vec (String Global) Global → Bool = λ list. holds (map string_bytes list.items) c.args.«module».now in
    position_from_yields_List test _ _ _ c.position.ensures.ran (YieldsList-from_slice lists c.iter.ensures.rest) (λ x b q k. search (rules, tests))
    ∙ position_from-zero test lists
    ∙ place_from-map (λ (list : List (List ℕ)). holds list c.args.«module».now) (λ (list : Vec (String Global) Global). map string_bytes list.items) 0 lists
    ∙ rw c.as_slice.ensures (ap (position_from (λ list. holds list c.args.«module».now) 0) c.self.view_is)
