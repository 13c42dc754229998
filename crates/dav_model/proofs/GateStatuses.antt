-- The statuses of what the gates refuse.
use Rattle.std.proofs.Common.{◌≡◌, ◌==◌, ◌&&◌, ℕ, zero, suc, List, [], ◌∷◌, Bool, true, false, cond, if◌then◌else◌, length, Option, None, Some, Result, Ok, Err, refl, sym, ap, ◌∙◌, subst, true≢false}
use Rattle.std.specs.List.{list_all}
use Rattle.std.specs.Prelude.{nat_lt}
use Rattle.http.specs.declared.request.Parts.{Parts}
use Rattle.http_uri.specs.Uri.{uri_path}
use Rattle.dav_core.specs.declared.dav_error.DavError.{DavError}
use Rattle.dav_core.specs.declared.method.DavMethod.{DavMethod}
use Rattle.dav_core.specs.declared.method.DavMethod.TheVariants.{Options}
use Rattle.dav_core.specs.declared.parse_error.ParseError.{ParseError}
use Rattle.dav_core.specs.declared.parse_error.ParseError.TheVariants.{InvalidPath, PrefixMismatch, NotText}
use Rattle.dav_core.specs.DavPath.{WebPath}
use Rattle.dav_core.specs.Grammar.{all_decoded, and_then, before_query, begins_with_slash, below, decoded, has_slash, is_path_byte, kept_if, kept_of, left_of, names_in, parsed, placed, prefix_names, readable, segments}
use Rattle.dav_core.specs.Methods.{method_of, same_method}
use Rattle.dav_core.specs.Path.{Names, is_front}
use Rattle.dav_core.specs.Statuses.{path_status}
use Rattle.dav_model.specs.declared.settings.Settings.{Settings}
use Rattle.dav_model.specs.declared.target.Target.{Target}
use Rattle.dav_model.specs.declared.target.Target.TheVariants.{At, Methods, Refused, Writes}
use Rattle.dav_model.specs.Conditions.{Fields, writes}
use Rattle.dav_model.specs.Gates.{Bulk, none, some, much, broken, admitted, asked, bulk_of, gates, is_allowed, is_built, of_body, or_refused, takes_much, takes_some, unless, weighed, with_method, with_path}
use Rattle.dav_model.specs.WellFormed.{gate_statuses, is_among}

abbrev IsListed : ℕ → Type 0
IsListed status = is_among status gate_statuses ≡ true

-- ---- paths

-- A path's fault has a status of the list: none is want of memory.
abbrev IsFound : {A : Type 0} → Result A ParseError → Type 0
IsFound (Ok a) = Unit {0}
IsFound (Err fault) = IsListed (path_status fault)

then_found : {A B : Type 0} (found : Result A ParseError) (go : A → Result B ParseError) → IsFound found → ((a : A) → IsFound (go a)) → IsFound (and_then found go)
then_found (Ok a) go is goes = goes a
then_found (Err fault) go is goes = is

if_found : {A : Type 0} (b : Bool) (x y : Result A ParseError) → IsFound x → IsFound y → IsFound (if b then x else y)
if_found true x y p q = p
if_found false x y p q = q

readable_found : (text : List ℕ) → IsFound (readable text)
readable_found text = if_found (list_all is_path_byte text && begins_with_slash text) (Ok text) (Err InvalidPath) tt refl

kept_found : (ups : ℕ) (kept : Names) → IsFound (kept_if ups kept)
kept_found zero kept = tt
kept_found (suc ups) kept = refl

-- the same as a type of its own
record IsNamed (found : Result (List ℕ) ParseError) : Type 0 where
  is : IsFound found

tests_found : (plain text : Bool) (bytes : List ℕ) → IsNamed (if plain then (if text then Ok bytes else Err NotText) else Err InvalidPath)
tests_found true true bytes = record { is = tt }
tests_found true false bytes = record { is = refl }
tests_found false text bytes = record { is = refl }

one_found : (segment : List ℕ) → IsNamed (decoded segment)
one_found segment = tests_found _ _ _

decoded_found : (segments : Names) → IsFound (all_decoded segments)
decoded_found [] = tt
decoded_found (segment ∷ more) =
    then_found (decoded segment) (λ name. and_then (all_decoded more) (λ names. Ok (name ∷ names))) (one_found segment).is
    (λ name. then_found (all_decoded more) (λ names. Ok (name ∷ names)) (decoded_found more) (λ names. tt))

names_found : (segments : Names) → IsFound (names_in segments)
names_found segments = then_found (kept_of segments) all_decoded (kept_found (left_of segments).ups (left_of segments).kept) decoded_found

placed_found : (segments prefix all : Names) → IsFound (placed segments prefix all)
placed_found segments prefix all =
    then_found (below prefix all) (λ names. Ok (record { prefix = prefix; names = names; slash = has_slash segments names }))
    (if_found (is_front prefix all) _ (Err PrefixMismatch) tt refl) (λ names. tt)

parsed_found : (text prefix : List ℕ) → IsFound (parsed text prefix)
parsed_found text prefix =
    then_found (readable (before_query text)) (λ cut. and_then (names_in (segments cut)) (placed (segments cut) (prefix_names prefix))) (readable_found (before_query text))
    (λ cut. then_found (names_in (segments cut)) (placed (segments cut) (prefix_names prefix)) (names_found (segments cut)) (placed_found (segments cut) (prefix_names prefix)))

-- ---- gates

-- what a request asks for, or a refusal of the list
abbrev IsGate : Target → Type 0
IsGate (At method path) = Unit {0}
IsGate Methods = Unit {0}
IsGate (Writes method path) = Unit {0}
IsGate (Refused status close) = IsListed status

if_gate : (b : Bool) (x y : Target) → IsGate x → IsGate y → IsGate (cond b x y)
if_gate true x y p q = p
if_gate false x y p q = q

path_gate : (method : DavMethod) (found : Result WebPath ParseError) → IsFound found → IsGate (with_path method found)
path_gate method (Ok path) is = tt
path_gate method (Err fault) is = is

method_gate : (settings : Settings) (stored : Bool) (head : Parts) (found : Result DavMethod DavError) → IsGate (with_method settings stored head found)
method_gate settings stored head (Err e) = refl
method_gate settings stored head (Ok method) =
    let text = uri_path head.uri in
    if_gate (is_allowed stored settings.allow method) (with_path method (parsed text settings.prefix)) (Refused 405 true)
    (path_gate method (parsed text settings.prefix) (parsed_found text settings.prefix)) refl

-- a refusal of the list, if there is one
abbrev IsGateWhere : Option Target → Type 0
IsGateWhere None = Unit {0}
IsGateWhere (Some target) = IsGate target

unless_gate : (passes : Bool) (status : ℕ) (close : Bool) → IsListed status → IsGateWhere (unless passes status close)
unless_gate true status close is = tt
unless_gate false status close is = is

-- A list of bytes has no reader that fails.
abbrev IsRead : Bulk → Type 0
IsRead none = Unit {0}
IsRead some = Unit {0}
IsRead much = Unit {0}
IsRead broken = ⊥

bytes_read : (a b : Bool) → IsRead (cond a none (cond b much some))
bytes_read true b = tt
bytes_read false true = tt
bytes_read false false = tt

much_gate : (takes : Bool) → IsGateWhere (cond takes None (Some (Refused 413 false)))
much_gate true = tt
much_gate false = refl

body_gate : (method : DavMethod) (bulk : Bulk) → IsRead bulk → IsGateWhere (of_body method bulk)
body_gate method none read = tt
body_gate method some read = unless_gate (takes_some method) 415 false refl
body_gate method much read = much_gate (takes_much method)
body_gate method broken read = absurd read

or_gate : (first other : Option Target) (target : Target) → IsGateWhere first → IsGateWhere other → IsGate target → IsGate (or_refused first other target)
or_gate None None target a b c = c
or_gate None (Some refused) target a b c = b
or_gate (Some refused) other target a b c = a

weighed_gate : (fields : Fields) (bulk : Bulk) (target : Target) → IsRead bulk → IsGate target → IsGate (weighed fields bulk target)
weighed_gate fields bulk (Refused status close) read is = is
weighed_gate fields bulk Methods read is = tt
weighed_gate fields bulk (Writes method path) read is = tt
weighed_gate fields bulk (At method path) read is =
    or_gate (of_body method bulk) (unless (is_built fields method) 501 true) (asked method path) (body_gate method bulk read) (unless_gate (is_built fields method) 501 true refl)
    (if_gate (same_method method Options) Methods (cond (writes method) (Writes method path) (At method path)) tt
    (if_gate (writes method) (Writes method path) (At method path) tt tt))

-- What the gates refuse a request with its whole body with has a status of the list.
pub gate_listed : (settings : Settings) (stored : Bool) (head : Parts) (bytes : List ℕ) (status : ℕ) (close : Bool) → gates settings stored head (bulk_of bytes) ≡ Refused status close
    → is_among status gate_statuses ≡ true
gate_listed settings stored head bytes status close refused =
    subst IsGate refused
    (weighed_gate head.headers (bulk_of bytes) (admitted settings stored head) (bytes_read (length bytes == 0) (nat_lt 65536 (length bytes)))
    (method_gate settings stored head (method_of head.method)))

-- a refusal with 500 is not of the list
never_listed : {X : Type 0} (status : ℕ) → IsListed status → status ≡ 500 → X
never_listed status listed e = absurd (true≢false (sym listed ∙ ap (λ n. is_among n gate_statuses) e))

-- A request passed the gates of its head, and its reader failed.
pub record IsBroken (settings : Settings) (stored : Bool) (head : Parts) (bulk : Bulk) : Type 0 where
  pub method : DavMethod
  pub path : WebPath
  pub passed : admitted settings stored head ≡ At method path
  pub failed : bulk ≡ broken

-- What the gates refuse with 500 is so.
pub gate_broken : (settings : Settings) (stored : Bool) (head : Parts) (bulk : Bulk) (status : ℕ) (close : Bool) → gates settings stored head bulk ≡ Refused status close
    → status ≡ 500 → IsBroken settings stored head bulk
gate_broken settings stored head bulk status close refused e =
    by_target (admitted settings stored head) refl (method_gate settings stored head (method_of head.method)) bulk refused
  where
    by_read : (bulk : Bulk) (target : Target) → IsRead bulk → IsGate target → weighed head.headers bulk target ≡ Refused status close → IsBroken settings stored head bulk
    by_read bulk target read gate refused = never_listed status (subst IsGate refused (weighed_gate head.headers bulk target read gate)) e

    by_target : (target : Target) → admitted settings stored head ≡ target → IsGate target → (bulk : Bulk) → weighed head.headers bulk target ≡ Refused status close
        → IsBroken settings stored head bulk
    by_target (Refused first shut) is gate bulk refused = let same : first ≡ status = cc in never_listed first gate (same ∙ e)
    by_target Methods is gate bulk refused = cc
    by_target (Writes method path) is gate bulk refused = cc
    by_target (At method path) is gate none refused = by_read none (At method path) tt gate refused
    by_target (At method path) is gate some refused = by_read some (At method path) tt gate refused
    by_target (At method path) is gate much refused = by_read much (At method path) tt gate refused
    by_target (At method path) is gate broken refused = record { method = method; path = path; passed = is; failed = refl }
