-- Elements of a list, and rows among others.
use Rattle.std.specs.Prelude.{◌≡◌, ◌&&◌, List, [], ◌∷◌, ◌++◌, Bool, true, false, cond, map, refl}
use Rattle.std.proofs.Common.{sym, ap, ◌∙◌, inl, inr, ◌⊎◌}
use Rattle.std.specs.List.{filter, list_all}
use Rattle.std.proofs.lemmas.Bool.{and_from, and_parts, both_ways}

-- it is one of these
abbrev pub In : {A : Type 0} → A → List A → Type 0
In x [] = ⊥
In x (y ∷ ys) = (x ≡ y) ⊎ In x ys

-- ---- what holds of each

pub all_at : {A : Type 0} (q : A → Bool) (xs : List A) (x : A) → list_all q xs ≡ true → In x xs → q x ≡ true
all_at q [] x all i = absurd i
all_at q (y ∷ xs) x all (inl e) = ap q e ∙ (and_parts (q y) (list_all q xs) all).0
all_at q (y ∷ xs) x all (inr i) = all_at q xs x (and_parts (q y) (list_all q xs) all).1 i

pub all_in : {A : Type 0} (q : A → Bool) (xs : List A) → ((x : A) → In x xs → q x ≡ true) → list_all q xs ≡ true
all_in q [] h = refl
all_in q (x ∷ xs) h = and_from (q x) (list_all q xs) (h x (inl refl)) (all_in q xs (λ y i. h y (inr i)))

-- ---- lists that are made of others

pub in_either : {A : Type 0} (x : A) (ys zs : List A) → In x (ys ++ zs) → In x ys ⊎ In x zs
in_either x [] zs i = inr i
in_either x (y ∷ ys) zs (inl e) = inl (inl e)
in_either x (y ∷ ys) zs (inr i) = later (in_either x ys zs i)
  where
    later : In x ys ⊎ In x zs → In x (y ∷ ys) ⊎ In x zs
    later (inl j) = inl (inr j)
    later (inr j) = inr j

pub in_map : {A : Type 0} (f : A → A) (xs : List A) (y : A) → In y (map f xs) → (x : A) × In x xs × (y ≡ f x)
in_map f [] y i = absurd i
in_map f (x ∷ xs) y (inl e) = (x, inl refl, e)
in_map f (x ∷ xs) y (inr i) = let t = in_map f xs y i in (t.0, inr t.1, t.2)

pub map_in : {A : Type 0} (f : A → A) (xs : List A) (x : A) → In x xs → In (f x) (map f xs)
map_in f [] x i = absurd i
map_in f (y ∷ xs) x (inl e) = inl (ap f e)
map_in f (y ∷ xs) x (inr i) = inr (map_in f xs x i)

in_kept : {A : Type 0} (b : Bool) (x y : A) (ys xs : List A) (keep : A → Bool) → b ≡ keep x → (In y ys → In y xs × (keep y ≡ true)) → In y (cond b (x ∷ ys) ys) → In y (x ∷ xs) × (keep y ≡ true)
in_kept true x y ys xs keep b h (inl e) = (inl e, ap keep e ∙ sym b)
in_kept true x y ys xs keep b h (inr i) = let t = h i in (inr t.0, t.1)
in_kept false x y ys xs keep b h i = let t = h i in (inr t.0, t.1)

pub in_filter : {A : Type 0} (keep : A → Bool) (xs : List A) (y : A) → In y (filter keep xs) → In y xs × (keep y ≡ true)
in_filter keep [] y i = absurd i
in_filter keep (x ∷ xs) y i = in_kept (keep x) x y (filter keep xs) xs keep refl (in_filter keep xs y) i

kept_in : {A : Type 0} (b : Bool) (x y : A) (ys : List A) (keep : A → Bool) → b ≡ keep x → keep y ≡ true → (y ≡ x) ⊎ In y ys → In y (cond b (x ∷ ys) ys)
kept_in true x y ys keep b k (inl e) = inl e
kept_in true x y ys keep b k (inr i) = inr i
kept_in false x y ys keep b k (inl e) = absurd (both_ways (keep x) (sym b) (ap keep (sym e) ∙ k))
kept_in false x y ys keep b k (inr i) = i

pub filter_in : {A : Type 0} (keep : A → Bool) (xs : List A) (y : A) → keep y ≡ true → In y xs → In y (filter keep xs)
filter_in keep [] y k i = absurd i
filter_in keep (x ∷ xs) y k (inl e) = kept_in (keep x) x y (filter keep xs) keep refl k (inl e)
filter_in keep (x ∷ xs) y k (inr i) = kept_in (keep x) x y (filter keep xs) keep refl k (inr (filter_in keep xs y k i))
