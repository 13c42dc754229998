-- What the fields of a COPY or a MOVE ask for is one value.
use Rattle.std.proofs.Common.{◌≡◌, ◌==◌, ◌||◌, inl, inr, ℕ, Bool, true, false, not, cond, List, [], length, codes, Option, None, Some, IsSome, is_some, Result, Err, refl, sym, ap, subst, ◌∙◌}
use Rattle.http_uri.specs.Grammar.{path_of}
use Rattle.http_uri.specs.Uri.{Spells, uri_data, uri_path, uri_scheme}
use Rattle.http_uri.specs.declared.uri.Uri.{Uri}
use Rattle.http_uri.proofs.Theorems.{Spells_unique}
use Rattle.dav_core.specs.declared.dav_error.DavError.{DavError}
use Rattle.dav_core.specs.declared.dav_error.DavError.TheVariants.{Status}
use Rattle.dav_core.specs.DavPath.{WebPath}
use Rattle.dav_core.specs.Grammar.{begins_with_slash, parsed}
use Rattle.dav_model.specs.declared.asked.Asked.{Asked}
use Rattle.dav_model.specs.Conditions.{Fields, first_bytes}
use Rattle.dav_model.specs.Destination.{Asks, IsAddress, IsDestination, IsNoAddress, IsPlace, asked_by, depth_of, overwrite_of, path_or_refusal}

-- the path of a URI, by its scheme and what stands behind the authority
abbrev path_by : Option (List ℕ) → List ℕ → List ℕ
path_by scheme bytes = cond (not (length bytes == 0) || is_some scheme) (path_of bytes) []

path_same : (u v : Uri) → uri_scheme u ≡ uri_scheme v → uri_data u ≡ uri_data v → uri_path u ≡ uri_path v
path_same u v scheme bytes = ap (λ s. path_by s (uri_data u)) scheme ∙ ap (λ b. path_by (uri_scheme v) b) bytes

none_here : (o : Option (List ℕ)) → o ≡ None → IsSome o → ⊥
none_here None e has = cc
none_here (Some text) e has = cc

address_once : (prefix text : List ℕ) (a b : Result WebPath DavError) → IsAddress prefix text a → IsAddress prefix text b → a ≡ b
address_once prefix text a b (inl (u, spells, has, is)) (inl (v, again, other, be)) =
    let same = Spells_unique text u v spells again in
    is ∙ ap (λ path. path_or_refusal (parsed path prefix)) (path_same u v same.0 same.2) ∙ sym be
address_once prefix text a b (inl (u, spells, has, is)) (inr (unaddressed, be)) = absurd (none_here (uri_scheme u) (unaddressed u spells) has)
address_once prefix text a b (inr (unaddressed, is)) (inl (v, spells, has, be)) = absurd (none_here (uri_scheme v) (unaddressed v spells) has)
address_once prefix text a b (inr (unaddressed, is)) (inr (none, be)) = is ∙ sym be

place_once : (slash : Bool) (prefix text : List ℕ) (a b : Result WebPath DavError) → IsPlace slash prefix text a → IsPlace slash prefix text b → a ≡ b
place_once true prefix text a b is be = is ∙ sym be
place_once false prefix text a b is be = address_once prefix text a b is be

destination_once : (prefix : List ℕ) (field : Option (List ℕ)) (a b : Result WebPath DavError) → IsDestination prefix field a → IsDestination prefix field b → a ≡ b
destination_once prefix None a b is be = is ∙ sym be
destination_once prefix (Some text) a b is be = place_once (begins_with_slash text) prefix text a b is be

pub asked_once : (moving : Bool) (prefix : List ℕ) (fields : Fields) (a b : Result Asked DavError) → Asks moving prefix fields a → Asks moving prefix fields b → a ≡ b
asked_once moving prefix fields a b (to, is, by) (at, be, so) =
    by ∙ ap (λ z. asked_by moving z (overwrite_of (first_bytes fields (codes "overwrite"))) (depth_of moving (first_bytes fields (codes "depth"))))
    (destination_once prefix (first_bytes fields (codes "destination")) to at is be) ∙ sym so

-- ---- there is such a value: none of them can be missing

module _ (prefix text : List ℕ) (none : (a : Result WebPath DavError) → IsAddress prefix text a → ⊥) where
  no_scheme : (uri : Uri) → Spells text uri → (scheme : Option (List ℕ)) → uri_scheme uri ≡ scheme → uri_scheme uri ≡ None
  no_scheme uri spells None e = e
  no_scheme uri spells (Some scheme) e = absurd (none (path_or_refusal (parsed (uri_path uri) prefix)) (inl (uri, spells, subst (λ o. IsSome o) (sym e) refl, refl)))

  unaddressed : IsNoAddress text
  unaddressed uri spells = no_scheme uri spells (uri_scheme uri) refl

  some_address : ⊥
  some_address = none (Err (Status 400)) (inr (unaddressed, refl))

some_place : (slash : Bool) (prefix text : List ℕ) → ((a : Result WebPath DavError) → IsPlace slash prefix text a → ⊥) → ⊥
some_place true prefix text none = none (path_or_refusal (parsed text prefix)) refl
some_place false prefix text none = some_address prefix text none

some_destination : (prefix : List ℕ) (field : Option (List ℕ)) → ((a : Result WebPath DavError) → IsDestination prefix field a → ⊥) → ⊥
some_destination prefix None none = none (Err (Status 400)) refl
some_destination prefix (Some text) none = some_place (begins_with_slash text) prefix text none

pub never_unasked : (moving : Bool) (prefix : List ℕ) (fields : Fields) → ((a : Result Asked DavError) → Asks moving prefix fields a → ⊥) → ⊥
never_unasked moving prefix fields none =
    some_destination prefix (first_bytes fields (codes "destination"))
    (λ to is. none (asked_by moving to (overwrite_of (first_bytes fields (codes "overwrite"))) (depth_of moving (first_bytes fields (codes "depth")))) (to, is, refl))
