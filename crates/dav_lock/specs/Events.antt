-- A forest as the list of its tags and texts, in their order, and the forest that such a list gives back.
use Rattle.std.specs.Prelude.{◌⊎◌, ℕ, zero, suc, List, [], ◌∷◌, Option, Some, None}
use Rattle.std.proofs.Common.{inl, inr}
use Rattle.dav_lock.specs.Pairs.{Table}
use Rattle.dav_lock.specs.Forests.{Forest, bare, then, Tree, element, text, comment, cdata, instruction}

-- what an opening tag says
abbrev pub Tag : Type 0
Tag = Option (List ℕ) × (Option (List ℕ) × (Option Table × (List ℕ × Table)))

-- an opening tag; or, where there is none, a closing one; or a text of one of four kinds
abbrev pub Event : Type 0
Event = Option Tag ⊎ (ℕ × (List ℕ × Option (List ℕ)))

abbrev mutual
  pub events : Forest → List Event → List Event
  events bare es = es
  events (then t ts) es = tree_events t (events ts es)

  pub tree_events : Tree → List Event → List Event
  tree_events (element prefix namespace namespaces name attributes children) es =
      inl (Some (prefix, (namespace, (namespaces, (name, attributes))))) ∷ events children (inl None ∷ es)
  tree_events (text t) es = inr (0, (t, None)) ∷ es
  tree_events (comment t) es = inr (1, (t, None)) ∷ es
  tree_events (cdata t) es = inr (2, (t, None)) ∷ es
  tree_events (instruction t d) es = inr (3, (t, d)) ∷ es

abbrev pub leaf_of : ℕ → List ℕ → Option (List ℕ) → Tree
leaf_of zero t d = text t
leaf_of (suc zero) t d = comment t
leaf_of (suc (suc zero)) t d = cdata t
leaf_of (suc (suc (suc n))) t d = instruction t d

-- what is in front of the innermost forest
abbrev pub put_first : Tree → List Forest → List Forest
put_first t [] = []
put_first t (f ∷ fs) = then t f ∷ fs

abbrev pub put_element : Tag → List Forest → List Forest
put_element tag [] = []
put_element tag (children ∷ fs) = put_first (element tag.0 tag.1.0 tag.1.1.0 tag.1.1.1.0 tag.1.1.1.1 children) fs

-- the forests that are open where these events begin
abbrev pub open_at : List Event → List Forest
open_at [] = bare ∷ []
open_at (inl None ∷ es) = bare ∷ open_at es
open_at (inl (Some tag) ∷ es) = put_element tag (open_at es)
open_at (inr leaf ∷ es) = put_first (leaf_of leaf.0 leaf.1.0 leaf.1.1) (open_at es)

abbrev pub first_of : List Forest → Forest
first_of [] = bare
first_of (f ∷ fs) = f
