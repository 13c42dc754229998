-- Places of names in directories, after one is added.
use Rattle.std.proofs.Common.{◌≡◌, ◌+◌, get_or, arith, ◌&&◌, ◌||◌, ℕ, List, [], ◌∷◌, Bool, true, false, cond, Option, None, Some, IsSome, refl, sym, ap, subst, ◌∙◌}
use Rattle.std.specs.Global.{Vec}
use Rattle.std.specs.Option.{option_or, is_some}
use Rattle.std.specs.Ordering.{nat_cmp, is_eq, is_lt, ordering_reverse}
use Rattle.std.specs.declared.cmp.Ordering.{Ordering}
use Rattle.std.specs.declared.cmp.Ordering.TheVariants.{Less, Equal, Greater}
use Rattle.dav_disk.specs.Listings.{AreSorted}
use Rattle.std.specs.Str.{bytes_eq}
use Rattle.std.proofs.lemmas.Slice.Eq.{bytes_eq-Decides}
use Rattle.std.specs.Cmp.Lexicographic.{slice_cmp, lists_ties, texts_ties, lists_total, nat_list_cmp_total}
use Rattle.std.specs.Cmp.{eq_by_cmp_equiv}
use Rattle.std.specs.List.{IsDistinct, list_any}
use Rattle.std.specs.Map.{keys_of, lookup, KeepsOthers, IsKeyTest, AreApart}
use Rattle.std.specs.BTreeMap.{BTreeMap, get_by, UpdatesBy, Updates, is_at, keys, IsOrdered}
use Rattle.std.proofs.lemmas.Map.Keys.{IsDistinct-from_sorted, Less-from_sorted}
use Rattle.dav_core.specs.Path.{Names, same_names}
use Rattle.dav_disk.specs.Members.{member_in, members_of, has_name, IsEachOnce, AreNamesOf}
use Rattle.dav_core.proofs.Paths.{names_same}
use Rattle.std.proofs.lemmas.Map.Text.{is_eq-slice_cmp}

names_test : (a b : Names) → is_eq (slice_cmp (slice_cmp nat_cmp) a b) ≡ same_names a b
names_test a b = sym (lists_ties (slice_cmp nat_cmp) texts_ties a b)

other_keys : {K X : Type 0} (eq : K → K → Bool) (test : K → Bool) (old new : List (K × X)) → KeepsOthers eq test old new → (other : K → Bool) → IsKeyTest eq other → AreApart test other
    → lookup other new ≡ lookup other old
unfolding KeepsOthers
other_keys eq test old new h = h

-- what a map of directories has, after a change at one
apart_names : (at dir k : Names) → same_names at dir ≡ false → is_eq (slice_cmp (slice_cmp nat_cmp) at k) ≡ true → is_eq (slice_cmp (slice_cmp nat_cmp) dir k) ≡ false
apart_names at dir k n y =
    let laws = eq_by_cmp_equiv (lists_total nat_list_cmp_total) in
    laws.symm dir k ∙ sym (laws.congr at k dir y) ∙ names_test at dir ∙ n

changed_by : {K X : Type 0} (f : K → Names) (at dir : Names) (b : Bool) (old new : BTreeMap K X) (w : Option X) → b ≡ same_names at dir
    → UpdatesBy (λ x y. slice_cmp (slice_cmp nat_cmp) (f x) (f y)) (λ k. slice_cmp (slice_cmp nat_cmp) at (f k)) old new w
    → get_by (λ k. slice_cmp (slice_cmp nat_cmp) dir (f k)) new ≡ cond b w (get_by (λ k. slice_cmp (slice_cmp nat_cmp) dir (f k)) old)
changed_by f at dir true old new w e u = ap (λ (p : Names). get_by (λ k. slice_cmp (slice_cmp nat_cmp) p (f k)) new) (sym (names_same at dir (sym e))) ∙ u.1
changed_by f at dir false old new w e u =
    other_keys _ _ old.entries new.entries u.3 _
    (λ x y h. (eq_by_cmp_equiv (lists_total nat_list_cmp_total)).congr dir (f x) (f y) h)
    (λ k h. apart_names at dir (f k) (sym e) h)

pub dirs_changed : {K X : Type 0} (f : K → Names) (at : Names) (old new : BTreeMap K X) (w : Option X)
    → UpdatesBy (λ x y. slice_cmp (slice_cmp nat_cmp) (f x) (f y)) (λ k. slice_cmp (slice_cmp nat_cmp) at (f k)) old new w
    → (dir : Names) → get_by (λ k. slice_cmp (slice_cmp nat_cmp) dir (f k)) new ≡ cond (same_names at dir) w (get_by (λ k. slice_cmp (slice_cmp nat_cmp) dir (f k)) old)
dirs_changed f at old new w u dir = changed_by f at dir (same_names at dir) old new w refl u

-- the same after an insertion, at the names of its key
pub dirs_put : {K X : Type 0} (f : K → Names) (at : Names) (key : K) (old new : BTreeMap K X) (w : Option X) → f key ≡ at
    → UpdatesBy (λ x y. slice_cmp (slice_cmp nat_cmp) (f x) (f y)) (λ k. slice_cmp (slice_cmp nat_cmp) (f key) (f k)) old new w
    → (dir : Names) → get_by (λ k. slice_cmp (slice_cmp nat_cmp) dir (f k)) new ≡ cond (same_names at dir) w (get_by (λ k. slice_cmp (slice_cmp nat_cmp) dir (f k)) old)
dirs_put f at key old new w e u dir =
    dirs_changed f (f key) old new w u dir ∙ ap (λ (p : Names). cond (same_names p dir) w (get_by (λ k. slice_cmp (slice_cmp nat_cmp) dir (f k)) old)) e

or_none : {A : Type 0} (o : Option A) → o ≡ option_or o None
or_none None = refl
or_none (Some x) = refl

-- a name that had no place
first_place : (c : Bool) (place : ℕ) (o : Option ℕ) → (c ≡ true → o ≡ None) → cond c (Some place) o ≡ option_or o (cond c (Some place) None)
first_place true place o h = ap (λ (o : Option ℕ). option_or o (Some place)) (sym (h refl))
first_place false place o h = or_none o

abbrev Members : Type 0
Members = BTreeMap (List ℕ) ℕ

-- what members have, after one is put among them
pub member_put : (added key : List ℕ) (place : ℕ) (there : Option Members) (old new : Members) → key ≡ added → Some old ≡ there → Updates (slice_cmp nat_cmp) old new key (Some place)
    → (name : List ℕ) → get_by (slice_cmp nat_cmp name) new ≡ cond (bytes_eq added name) (Some place) (member_in there name)
member_put added key place there old new k e u name =
    u.0 name
    ∙ ap (λ b. cond b (Some place) (get_by (slice_cmp nat_cmp name) old)) (is_eq-slice_cmp key name ∙ ap (λ (k : List ℕ). bytes_eq k name) k)
    ∙ ap (λ (o : Option Members). cond (bytes_eq added name) (Some place) (member_in o name)) e

-- and after the first is
pub member_first : (added key : List ℕ) (place : ℕ) (there : Option Members) (old new : Members) → key ≡ added → there ≡ None → old.entries ≡ [] → Updates (slice_cmp nat_cmp) old new key (Some place)
    → (name : List ℕ) → get_by (slice_cmp nat_cmp name) new ≡ cond (bytes_eq added name) (Some place) (member_in there name)
member_first added key place there old new k e empty u name =
    u.0 name
    ∙ ap (λ b. cond b (Some place) (get_by (slice_cmp nat_cmp name) old)) (is_eq-slice_cmp key name ∙ ap (λ (k : List ℕ). bytes_eq k name) k)
    ∙ ap (λ es. cond (bytes_eq added name) (Some place) (lookup (is_at (slice_cmp nat_cmp name)) es)) empty
    ∙ ap (λ (o : Option Members). cond (bytes_eq added name) (Some place) (member_in o name)) (sym e)

added_by : (f : Names → Option Members) (at dir : Names) (added name : List ℕ) (place : ℕ) (m : Members) (b : Bool) → b ≡ same_names at dir
    → ((name : List ℕ) → get_by (slice_cmp nat_cmp name) m ≡ cond (bytes_eq added name) (Some place) (member_in (f at) name))
    → member_in (f at) added ≡ None
    → member_in (cond b (Some m) (f dir)) name ≡ option_or (member_in (f dir) name) (cond (b && bytes_eq added name) (Some place) None)
added_by f at dir added name place m true e has none =
    let same = names_same at dir (sym e) in
    has name
    ∙ first_place (bytes_eq added name) place (member_in (f at) name) (λ y. ap (member_in (f at)) (sym ((bytes_eq-Decides added name).0 y)) ∙ none)
    ∙ ap (λ (p : Names). option_or (member_in (f p) name) (cond (bytes_eq added name) (Some place) None)) same
added_by f at dir added name place m false e has none = or_none (member_in (f dir) name)

-- a place that is added, where the members of its directory are these now
pub place_added : (f g : Names → Option Members) (at : Names) (added : List ℕ) (place : ℕ) (m : Members)
    → ((dir : Names) → g dir ≡ cond (same_names at dir) (Some m) (f dir))
    → ((name : List ℕ) → get_by (slice_cmp nat_cmp name) m ≡ cond (bytes_eq added name) (Some place) (member_in (f at) name))
    → member_in (f at) added ≡ None
    → (dir : Names) (name : List ℕ) → member_in (g dir) name ≡ option_or (member_in (f dir) name) (cond (same_names at dir && bytes_eq added name) (Some place) None)
place_added f g at added place m changed has none dir name =
    ap (λ (o : Option Members). member_in o name) (changed dir) ∙ added_by f at dir added name place m (same_names at dir) refl has none

kept_by : (f : Names → Option Members) (at dir : Names) (name : List ℕ) (m n : Members) (b : Bool) → b ≡ same_names at dir → Some m ≡ f at → n.entries ≡ m.entries
    → member_in (cond b (Some n) (f dir)) name ≡ member_in (f dir) name
kept_by f at dir name m n true e there same =
    ap (lookup (is_at (slice_cmp nat_cmp name))) same
    ∙ ap (λ (o : Option Members). member_in o name) (there ∙ ap f (names_same at dir (sym e)))
kept_by f at dir name m n false e there same = refl

-- the places, where the members of a directory stay
pub places_kept : (f g : Names → Option Members) (at : Names) (m n : Members) → ((dir : Names) → g dir ≡ cond (same_names at dir) (Some n) (f dir)) → Some m ≡ f at → n.entries ≡ m.entries
    → (dir : Names) (name : List ℕ) → member_in (g dir) name ≡ member_in (f dir) name
places_kept f g at m n changed there same dir name =
    ap (λ (o : Option Members). member_in o name) (changed dir) ∙ kept_by f at dir name m n (same_names at dir) refl there same

-- a place that stands stays
pub stands_still : (o : Option ℕ) (p : Option ℕ) → is_some o ≡ true → o ≡ option_or o p
stands_still None p e = cc
stands_still (Some i) p e = refl

-- where there is one only if a name is the one that has a place
still_by : (f : Names → List ℕ → Option ℕ) (at dir : Names) (added name : List ℕ) (place : ℕ) (b c : Bool) → b ≡ same_names at dir → c ≡ bytes_eq added name → is_some (f at added) ≡ true
    → f dir name ≡ option_or (f dir name) (cond (b && c) (Some place) None)
still_by f at dir added name place true true e d some =
    stands_still (f dir name) (Some place) (ap is_some (ap (f dir) (sym ((bytes_eq-Decides added name).0 (sym d))) ∙ ap (λ (p : Names). f p added) (sym (names_same at dir (sym e)))) ∙ some)
still_by f at dir added name place true false e d some = or_none (f dir name)
still_by f at dir added name place false c e d some = or_none (f dir name)

pub has_still : (f : Names → List ℕ → Option ℕ) (at : Names) (added : List ℕ) (place : ℕ) → is_some (f at added) ≡ true
    → (dir : Names) (name : List ℕ) → f dir name ≡ option_or (f dir name) (cond (same_names at dir && bytes_eq added name) (Some place) None)
has_still f at added place some dir name = still_by f at dir added name place (same_names at dir) (bytes_eq added name) refl refl some

-- the names of members stand once each
keys_once : (m : Members) → IsOrdered (slice_cmp nat_cmp) m → IsEachOnce (keys m)
keys_once m ordered = IsDistinct-from_sorted (slice_cmp nat_cmp) (keys m) ordered

not_back : (o : Ordering) → ordering_reverse o ≡ Less → is_lt o ≡ false
not_back Less e = cc
not_back Equal e = cc
not_back Greater e = refl

-- and they are in order
keys_sorted : (m : Members) → IsOrdered (slice_cmp nat_cmp) m → AreSorted (keys m)
keys_sorted m ordered = λ k d _ lt.
    not_back (slice_cmp nat_cmp (get_or (keys m) (k + 1) d) (get_or (keys m) k d))
    (sym (nat_list_cmp_total.antisymm (get_or (keys m) k d) (get_or (keys m) (k + 1) d)) ∙ Less-from_sorted (slice_cmp nat_cmp) (keys m) k (k + 1) d ordered (omega arith) lt)

none_once : IsEachOnce []
unfolding IsDistinct
none_once = tt

-- a look-up that gives something
pub is_there : {A : Type 0} (x : A) (o : Option A) → Some x ≡ o → IsSome o
is_there x None e = cc
is_there x (Some y) e = refl

found_any : (test : List ℕ → Bool) (es : List (List ℕ × ℕ)) → list_any test (keys_of es) ≡ is_some (lookup test es)
found_any test [] = refl
found_any test (e ∷ es) = found_by (test e.0) e.1 (lookup test es) (list_any test (keys_of es)) (found_any test es)
  where
    found_by : (b : Bool) (i : ℕ) (o : Option ℕ) (any : Bool) → any ≡ is_some o → (b || any) ≡ is_some (cond b (Some i) o)
    found_by true i o any h = refl
    found_by false i o any h = h

-- they are the names that have a place
keys_all : (m : Members) (there : Option Members) (name : List ℕ) → Some m ≡ there → has_name (keys m) name ≡ is_some (member_in there name)
keys_all m there name e = found_any (is_at (slice_cmp nat_cmp name)) m.entries ∙ ap (λ (o : Option Members). is_some (member_in o name)) e

-- so they are the names of the directory that has these members
pub keys_named : (m : Members) (there : Option Members) (names : Names) → IsOrdered (slice_cmp nat_cmp) m → Some m ≡ there → names ≡ keys m → AreNamesOf there names
keys_named m there names ordered e same = rw same (keys_once m ordered, keys_sorted m ordered, λ name. keys_all m there name e)

-- a directory without members has no names
pub none_named : (there : Option Members) (names : Names) → there ≡ None → names ≡ [] → AreNamesOf there names
none_named there names e same = rw (e, same) (none_once, (λ k d _ lt. absurd (omega arith)), λ name. refl)

-- names that were listed at an equal path
pub named_still : (dirs : BTreeMap (Vec (List ℕ)) Members) (at dir names given : Names) → AreNamesOf (members_of dirs at) names → at ≡ dir → given ≡ names → AreNamesOf (members_of dirs dir) given
named_still dirs at dir names given named here same =
    subst (λ (p : Names). AreNamesOf (members_of dirs p) given) here (subst (λ (ns : Names). AreNamesOf (members_of dirs at) ns) (sym same) named)
