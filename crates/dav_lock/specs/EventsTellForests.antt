-- The events of a forest give it back: the law that its code cites, so it stands among the definitions.
use Rattle.std.specs.Prelude.{◌≡◌, List, [], ◌∷◌, None, refl}
use Rattle.std.proofs.Common.{inl, ap, ◌∙◌}
use Rattle.dav_lock.specs.Forests.{Forest, bare, then, Tree, element, text, comment, cdata, instruction, joined}
use Rattle.dav_lock.specs.Events.{Event, events, tree_events, put_first, put_element, open_at, first_of}

joined-bare : (f : Forest) → joined f bare ≡ f
joined-bare bare = refl
joined-bare (then t ts) = ap (then t) (joined-bare ts)

mutual
  open_at-events : (f : Forest) (es : List Event) (g : Forest) (fs : List Forest) → open_at es ≡ g ∷ fs
      → open_at (events f es) ≡ joined f g ∷ fs
  open_at-events bare es g fs h = h
  open_at-events (then t ts) es g fs h = open_at-tree t (events ts es) (joined ts g) fs (open_at-events ts es g fs h)

  open_at-tree : (t : Tree) (es : List Event) (g : Forest) (fs : List Forest) → open_at es ≡ g ∷ fs
      → open_at (tree_events t es) ≡ then t g ∷ fs
  open_at-tree (element prefix namespace namespaces name attributes children) es g fs h =
      ap (put_element (prefix, (namespace, (namespaces, (name, attributes)))))
      (open_at-events children (inl None ∷ es) bare (g ∷ fs) (ap (λ s. bare ∷ s) h))
      ∙ ap (λ c. then (element prefix namespace namespaces name attributes c) g ∷ fs) (joined-bare children)
  open_at-tree (text t) es g fs h = ap (put_first (text t)) h
  open_at-tree (comment t) es g fs h = ap (put_first (comment t)) h
  open_at-tree (cdata t) es g fs h = ap (put_first (cdata t)) h
  open_at-tree (instruction t d) es g fs h = ap (put_first (instruction t d)) h

pub events_tell : (f : Forest) → first_of (open_at (events f [])) ≡ f
events_tell f = ap first_of (open_at-events f [] bare [] refl) ∙ joined-bare f
