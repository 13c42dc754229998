-- Children, one node after another.
use Rattle.std.proofs.Common.{◌≡◌, ℕ, ◌+◌, ◌<◌, Bool, true, false, cond, List, [], ◌∷◌, ◌++◌, length, take, drop, get_or, Option, Some, None, refl, sym, ap, ◌∙◌, append_assoc, append-nil, map, Bor, option_copied}
use Rattle.std.proofs.lemmas.List.{map-append}
use Rattle.std.specs.List.{filter, flat_map}
use Rattle.std.specs.Option.{option_or, option_map, option_to_list}
use Rattle.std.proofs.lemmas.List.Concat.{flat_map-append}
use Rattle.dav_lock.specs.Forests.{Forest, bare, then, element, text, comment, cdata, instruction, joined}
use Rattle.dav_lock.specs.Trees.{tree_of, forest_of}
use Rattle.dav_lock.specs.declared.element.Element.{Element}
use Rattle.dav_lock.specs.declared.element.XmlNode.{XmlNode}
use Rattle.dav_lock.proofs.Forests.{forest_step, forest_parts}
use Rattle.dav_report.specs.Children.{elements, texts, is_named, named, first_of, last_of, with_first, each}

pub elements-joined : (f g : Forest) → elements (joined f g) ≡ elements f ++ elements g
elements-joined bare g = refl
elements-joined (then (element prefix namespace namespaces name attributes children) rest) g =
    ap (λ es. record { prefix = prefix; namespace = namespace; namespaces = namespaces; name = name; attributes = attributes; children = children } ∷ es) (elements-joined rest g)
elements-joined (then (text t) rest) g = elements-joined rest g
elements-joined (then (comment t) rest) g = elements-joined rest g
elements-joined (then (cdata t) rest) g = elements-joined rest g
elements-joined (then (instruction t d) rest) g = elements-joined rest g

pub texts-joined : (f g : Forest) → texts (joined f g) ≡ texts f ++ texts g
texts-joined bare g = refl
texts-joined (then (element prefix namespace namespaces name attributes children) rest) g = texts-joined rest g
texts-joined (then (text t) rest) g = ap (λ ts. t ∷ ts) (texts-joined rest g)
texts-joined (then (comment t) rest) g = texts-joined rest g
texts-joined (then (cdata t) rest) g = texts-joined rest g
texts-joined (then (instruction t d) rest) g = texts-joined rest g

kept_first : {A : Type 0} (b : Bool) (x : A) (xs ys : List A) → cond b (x ∷ xs) xs ++ ys ≡ cond b (x ∷ (xs ++ ys)) (xs ++ ys)
kept_first true x xs ys = refl
kept_first false x xs ys = refl

filter-joined : {A : Type 0} (p : A → Bool) (xs ys : List A) → filter p (xs ++ ys) ≡ filter p xs ++ filter p ys
filter-joined p [] ys = refl
filter-joined p (x ∷ xs) ys = ap (λ zs. cond (p x) (x ∷ zs) zs) (filter-joined p xs ys) ∙ sym (kept_first (p x) x (filter p xs) (filter p ys))

pub last_of-push : {A : Type 0} (xs : List A) (x : A) → last_of (xs ++ x ∷ []) ≡ Some x
last_of-push [] x = refl
last_of-push (y ∷ []) x = refl
last_of-push (y ∷ z ∷ zs) x = last_of-push (z ∷ zs) x

pub or_none : {A : Type 0} (o : Option A) → option_or o None ≡ o
or_none None = refl
or_none (Some x) = refl

last_some : {A : Type 0} (y : A) (ys : List A) (o : Option A) → last_of (y ∷ ys) ≡ option_or (last_of (y ∷ ys)) o
last_some y [] o = refl
last_some y (z ∷ zs) o = last_some z zs o

last_of-append : {A : Type 0} (xs ys : List A) → last_of (xs ++ ys) ≡ option_or (last_of ys) (last_of xs)
last_of-append xs [] = ap last_of (append-nil xs)
last_of-append [] (y ∷ ys) = sym (or_none (last_of (y ∷ ys)))
last_of-append (x ∷ []) (y ∷ ys) = last_some y ys (last_of (x ∷ []))
last_of-append (x ∷ z ∷ zs) (y ∷ ys) = last_of-append (z ∷ zs) (y ∷ ys)

-- what was found later, or else what was kept before
pub later : {T : Type 0} (found kept : Option (Bor T)) (a b : Option T) → option_copied found ≡ a → option_copied kept ≡ b
    → option_copied (option_or found kept) ≡ option_or a b
later None kept a b e f = ap (λ o. option_or None o) f ∙ ap (λ o. option_or o b) e
later (Some x) kept a b e f = ap (λ o. option_or o b) e

pub last_of-one : {A : Type 0} (o : Option A) → last_of (option_to_list o) ≡ o
last_of-one None = refl
last_of-one (Some x) = refl

pub named-joined : (name : List ℕ) (f g : Forest) → named name (joined f g) ≡ named name f ++ named name g
named-joined name f g = ap (filter (is_named name)) (elements-joined f g) ∙ filter-joined (is_named name) (elements f) (elements g)

module _ {A : Type 0} (R : Forest → List A) (joins : (f g : Forest) → R (joined f g) ≡ R f ++ R g) where
  -- one node more, and what is read there
  pub read_more : (xs : List XmlNode) (i : ℕ) (x : XmlNode) (found : List A) → i < length xs → x ≡ get_or xs i x → found ≡ R (then (tree_of x) bare)
      → R (forest_of (take (i + 1) xs)) ≡ R (forest_of (take i xs)) ++ found
  read_more xs i x found within is here =
      ap R (forest_step xs i x within is) ∙ joins (forest_of (take i xs)) (then (tree_of x) bare)
      ∙ ap (λ es. R (forest_of (take i xs)) ++ es) (sym here)

  -- what is read at a node, before it and after it
  pub read_parts : (xs : List XmlNode) (i : ℕ) (x : XmlNode) (found : List A) → i < length xs → x ≡ get_or xs i x → found ≡ R (then (tree_of x) bare)
      → R (forest_of xs) ≡ R (forest_of (take i xs)) ++ (found ++ R (forest_of (drop (i + 1) xs)))
  read_parts xs i x found within is here =
      ap R (forest_parts xs i x within is) ∙ joins (forest_of (take i xs)) (then (tree_of x) (forest_of (drop (i + 1) xs)))
      ∙ ap (λ es. R (forest_of (take i xs)) ++ es) (joins (then (tree_of x) bare) (forest_of (drop (i + 1) xs)) ∙ ap (λ es. es ++ R (forest_of (drop (i + 1) xs))) (sym here))

  -- nothing yet
  pub none_more : (xs : List XmlNode) (i : ℕ) (x : XmlNode) → i < length xs → x ≡ get_or xs i x → [] ≡ R (then (tree_of x) bare)
      → R (forest_of (take i xs)) ≡ [] → R (forest_of (take (i + 1) xs)) ≡ []
  none_more xs i x within is here before = read_more xs i x [] within is here ∙ ap (λ es. es ++ []) before

  pub first_here : (xs : List XmlNode) (f : Forest) (i : ℕ) (x : XmlNode) (e : A) → forest_of xs ≡ f → i < length xs → x ≡ get_or xs i x
      → e ∷ [] ≡ R (then (tree_of x) bare) → R (forest_of (take i xs)) ≡ [] → Some e ≡ first_of (R f)
  first_here xs f i x e whole within is here before =
      sym (ap first_of (ap R (sym whole) ∙ read_parts xs i x (e ∷ []) within is here ∙ ap (λ es. es ++ (e ∷ R (forest_of (drop (i + 1) xs)))) before))

  pub last_here : (xs : List XmlNode) (i : ℕ) (x : XmlNode) (e : A) → i < length xs → x ≡ get_or xs i x → e ∷ [] ≡ R (then (tree_of x) bare)
      → Some e ≡ last_of (R (forest_of (take (i + 1) xs)))
  last_here xs i x e within is here = sym (ap last_of (read_more xs i x (e ∷ []) within is here) ∙ last_of-push (R (forest_of (take i xs))) e)

  pub last_stays : (xs : List XmlNode) (i : ℕ) (x : XmlNode) (last : Option A) → i < length xs → x ≡ get_or xs i x → [] ≡ R (then (tree_of x) bare)
      → last ≡ last_of (R (forest_of (take i xs))) → last ≡ last_of (R (forest_of (take (i + 1) xs)))
  last_stays xs i x last within is here before =
      before ∙ sym (ap last_of (read_more xs i x [] within is here ∙ append-nil (R (forest_of (take i xs)))))

module _ {A : Type 0} (R : Forest → List A) (joins : (f g : Forest) → R (joined f g) ≡ R f ++ R g) where
  -- all that was read, after what was there before
  pub old_stays : (old names : List A) (xs : List XmlNode) (i : ℕ) (x : XmlNode) → i < length xs → x ≡ get_or xs i x → [] ≡ R (then (tree_of x) bare)
      → names ≡ old ++ R (forest_of (take i xs)) → names ≡ old ++ R (forest_of (take (i + 1) xs))
  old_stays old names xs i x within is here before =
      before ∙ ap (λ es. old ++ es) (sym (read_more R joins xs i x [] within is here ∙ append-nil (R (forest_of (take i xs)))))

  pub old_more : (old names found : List A) (xs : List XmlNode) (i : ℕ) (x : XmlNode) → i < length xs → x ≡ get_or xs i x
      → found ≡ R (then (tree_of x) bare) → names ≡ old ++ R (forest_of (take i xs))
      → names ++ found ≡ old ++ R (forest_of (take (i + 1) xs))
  old_more old names found xs i x within is here before =
      ap (λ es. es ++ found) before ∙ append_assoc old (R (forest_of (take i xs))) found ∙ ap (λ es. old ++ es) (sym (read_more R joins xs i x found within is here))

  pub all_stays : (names : List A) (xs : List XmlNode) (i : ℕ) (x : XmlNode) → i < length xs → x ≡ get_or xs i x → [] ≡ R (then (tree_of x) bare)
      → names ≡ R (forest_of (take i xs)) → names ≡ R (forest_of (take (i + 1) xs))
  all_stays names xs i x within is here before = before ∙ sym (read_more R joins xs i x [] within is here ∙ append-nil (R (forest_of (take i xs))))

  pub all_more : (names found : List A) (xs : List XmlNode) (i : ℕ) (x : XmlNode) → i < length xs → x ≡ get_or xs i x
      → found ≡ R (then (tree_of x) bare) → names ≡ R (forest_of (take i xs)) → names ++ found ≡ R (forest_of (take (i + 1) xs))
  all_more names found xs i x within is here before = ap (λ es. es ++ found) before ∙ sym (read_more R joins xs i x found within is here)

  -- the last of what was read, where something or nothing more is read
  pub last_more : (xs : List XmlNode) (i : ℕ) (x : XmlNode) (found : List A) (last : Option A) → i < length xs → x ≡ get_or xs i x
      → found ≡ R (then (tree_of x) bare) → last ≡ option_or (last_of found) (last_of (R (forest_of (take i xs))))
      → last ≡ last_of (R (forest_of (take (i + 1) xs)))
  last_more xs i x found last within is here e =
      e ∙ sym (ap last_of (read_more R joins xs i x found within is here) ∙ last_of-append (R (forest_of (take i xs))) found)

module _ {A : Type 0} (g : Element → List A) (name : List ℕ) where
  pub flat-joined : (f h : Forest) → flat_map g (named name (joined f h)) ≡ flat_map g (named name f) ++ flat_map g (named name h)
  flat-joined f h = ap (flat_map g) (named-joined name f h) ∙ flat_map-append g (named name f) (named name h)

  pub flat_none : (es : List Element) → [] ≡ es → [] ≡ flat_map g es
  flat_none es e = ap (flat_map g) e

  pub flat_one : (es : List Element) (e : Element) → e ∷ [] ≡ es → g e ≡ flat_map g es
  flat_one es e is = sym (append-nil (g e)) ∙ ap (flat_map g) is

pub names-joined : (f g : Forest) → map (λ e. e.name) (elements (joined f g)) ≡ map (λ e. e.name) (elements f) ++ map (λ e. e.name) (elements g)
names-joined f g = ap (map (λ e. e.name)) (elements-joined f g) ∙ map-append (λ e. e.name) (elements f) (elements g)

some_inj : {A : Type 0} {x y : A} → Some x ≡ Some y → x ≡ y
some_inj e = cc

pushed : {B : Type 0} (o : Option B) (all more : Option (List B)) (bs : List B) (b : B) → with_first o all ≡ Some bs
    → ((cs : List B) → all ≡ Some cs → more ≡ Some (cs ++ b ∷ [])) → with_first o more ≡ Some (bs ++ b ∷ [])
pushed None all more bs b whole rest = cc
pushed (Some x) None more bs b whole rest = cc
pushed (Some x) (Some cs) more bs b whole rest = rw (rest cs refl) (ap (λ ds. Some (ds ++ b ∷ [])) (some_inj whole))

no_rest : {B : Type 0} (o : Option B) → with_first o None ≡ None
no_rest None = refl
no_rest (Some x) = refl

each-push : {A B : Type 0} (f : A → Option B) (ys : List A) (bs : List B) (a : A) (b : B) → each f ys ≡ Some bs → f a ≡ Some b
    → each f (ys ++ a ∷ []) ≡ Some (bs ++ b ∷ [])
each-push f [] bs a b all here = rw here (ap (λ cs. Some (cs ++ b ∷ [])) (some_inj all))
each-push f (x ∷ ys) bs a b all here = pushed (f x) (each f ys) (each f (ys ++ a ∷ [])) bs b all (λ cs rest. each-push f ys cs a b rest here)

each-fault : {A B : Type 0} (f : A → Option B) (ys : List A) (a : A) (more : List A) → f a ≡ None → each f (ys ++ a ∷ more) ≡ None
each-fault f [] a more here = rw here refl
each-fault f (x ∷ ys) a more here = rw (each-fault f ys a more here) (no_rest (f x))

module _ {B : Type 0} (f : Element → Option B) (name : List ℕ) where
  -- a node that isn't asked for
  pub each_stays : (xs : List XmlNode) (i : ℕ) (x : XmlNode) (bs : List B) → i < length xs → x ≡ get_or xs i x
      → [] ≡ named name (then (tree_of x) bare) → each f (named name (forest_of (take i xs))) ≡ Some bs
      → each f (named name (forest_of (take (i + 1) xs))) ≡ Some bs
  each_stays xs i x bs within is here before =
      ap (each f) (read_more (named name) (named-joined name) xs i x [] within is here ∙ append-nil (named name (forest_of (take i xs)))) ∙ before

  -- one more
  pub each_more : (xs : List XmlNode) (i : ℕ) (x : XmlNode) (bs : List B) (e : Element) (b : B) → i < length xs → x ≡ get_or xs i x
      → e ∷ [] ≡ named name (then (tree_of x) bare) → f e ≡ Some b
      → each f (named name (forest_of (take i xs))) ≡ Some bs → each f (named name (forest_of (take (i + 1) xs))) ≡ Some (bs ++ b ∷ [])
  each_more xs i x bs e b within is here good before =
      ap (each f) (read_more (named name) (named-joined name) xs i x (e ∷ []) within is here) ∙ each-push f (named name (forest_of (take i xs))) bs e b before good

  -- one at fault
  pub each_faulty : (xs : List XmlNode) (g : Forest) (i : ℕ) (x : XmlNode) (e : Element) → forest_of xs ≡ g → i < length xs → x ≡ get_or xs i x
      → e ∷ [] ≡ named name (then (tree_of x) bare) → f e ≡ None → None ≡ each f (named name g)
  each_faulty xs g i x e whole within is here bad =
      sym (ap (λ h. each f (named name h)) (sym whole) ∙ ap (each f) (read_parts (named name) (named-joined name) xs i x (e ∷ []) within is here) ∙ each-fault f (named name (forest_of (take i xs))) e _ bad)

  -- a filter that is kept: the last of all that were found
  module _ {C : Type 0} (list : B → List C) where
    abbrev pub kept : List B → Option C
    kept bs = last_of (flat_map list bs)

    kept-push : (bs : List B) (b : B) → kept (bs ++ b ∷ []) ≡ option_or (last_of (list b)) (kept bs)
    kept-push bs b =
        ap last_of (flat_map-append list bs (b ∷ []) ∙ ap (λ cs. flat_map list bs ++ cs) (append-nil (list b)))
        ∙ last_of-append (flat_map list bs) (list b)

    kept_next : (es : List Element) (o : Option (List B)) (last : Option C) (e : Element) (b : B) → each f es ≡ o → option_map kept o ≡ Some last
        → f e ≡ Some b → option_map kept (each f (es ++ e ∷ [])) ≡ Some (option_or (last_of (list b)) last)
    kept_next es None last e b all before good = cc
    kept_next es (Some bs) last e b all before good =
        ap (option_map kept) (each-push f es bs e b all good) ∙ ap Some (kept-push bs b ∙ ap (option_or (last_of (list b))) (some_inj before))

    pub kept_stays : (xs : List XmlNode) (i : ℕ) (x : XmlNode) (last : Option C) → i < length xs → x ≡ get_or xs i x
        → [] ≡ named name (then (tree_of x) bare) → option_map kept (each f (named name (forest_of (take i xs)))) ≡ Some last
        → option_map kept (each f (named name (forest_of (take (i + 1) xs)))) ≡ Some last
    kept_stays xs i x last within is here before =
        ap (λ es. option_map kept (each f es)) (read_more (named name) (named-joined name) xs i x [] within is here ∙ append-nil (named name (forest_of (take i xs)))) ∙ before

    pub kept_more : (xs : List XmlNode) (i : ℕ) (x : XmlNode) (last : Option C) (e : Element) (b : B) → i < length xs → x ≡ get_or xs i x
        → e ∷ [] ≡ named name (then (tree_of x) bare) → f e ≡ Some b
        → option_map kept (each f (named name (forest_of (take i xs)))) ≡ Some last
        → option_map kept (each f (named name (forest_of (take (i + 1) xs)))) ≡ Some (option_or (last_of (list b)) last)
    kept_more xs i x last e b within is here good before =
        ap (λ es. option_map kept (each f es)) (read_more (named name) (named-joined name) xs i x (e ∷ []) within is here) ∙ kept_next (named name (forest_of (take i xs))) _ last e b refl before good
