-- A decoder goes through a text.
use Rattle.std.proofs.Common.{◌≡◌, ◌<◌, ◌≢◌, ◌+◌, ℕ, true, cond, List, [], ◌∷◌, ◌++◌, map, length, Some, Ok, refl, sym, ◌∙◌, ap, subst, arith, append_assoc, append-nil, length-append, nat_lt}
use Rattle.std.specs.List.{flat_map, list_all}
use Rattle.std.specs.Char.{is_digit}
use Rattle.std.proofs.lemmas.Bool.{and_parts}
use Rattle.std.proofs.lemmas.List.Concat.{flat_map-append}
use Rattle.std.proofs.lemmas.List.{map-append}
use Rattle.htmlescape.specs.Grammar.{Item, Plain, Name, Decimal, Hexadecimal, spelled, meaning, are_digits, Begins, HasFault, fault_at, entity_fault, name_fault, number_fault, digits_fault}
use Rattle.htmlescape.specs.Running.{Pending, Stepped, NoItem, begins_name}
use Rattle.htmlescape.specs.Progress.{Running, Took}
use Rattle.htmlescape.specs.declared.decoder.Decoder.{Decoder}
use Rattle.htmlescape.specs.declared.state.State.{State}
use Rattle.htmlescape.specs.declared.state.State.TheVariants.{Text, Ampersand, Named, Hash, HexMark, Decimal as InDecimal, Hexadecimal as InHexadecimal}
use Rattle.htmlescape.specs.declared.state.Step.TheVariants.{Whole, Fault}
use Rattle.htmlescape.specs.declared.faults.DecodeErrKind.{DecodeErrKind}
use Rattle.htmlescape.specs.declared.faults.DecodeErrKind.TheVariants.{UnknownEntity, PrematureEnd}
use Rattle.htmlescape.proofs.Items.{item_at, none_begins, entity_item, numbered_item, digits_item, name_item, name_item_all, digits_item_all, digits_fault_all, decimal_item, decimal_fault, has_none, no_end, entity_of_name, fault_of_name}
use Rattle.htmlescape.proofs.Fronts.{longest_front}

pub begun : Running (record { state = Text; read = 0; place = 0 }) [] []
begun = record { pending = []; front = record { items = []; spells = refl; means = refl }; keeps = refl; read = refl; place = refl }

one_longer : (text : List ℕ) (c : ℕ) → length (text ++ c ∷ []) ≡ length text + 1
one_longer text c = length-append text (c ∷ [])

-- what is read with the next character
next_spells : (text value : List ℕ) (c : ℕ) (pending : List ℕ) (b : Begins text value pending)
    → text ++ c ∷ [] ≡ flat_map spelled b.items ++ (pending ++ c ∷ [])
next_spells text value c pending b = ap (λ t. t ++ c ∷ []) b.spells ∙ append_assoc (flat_map spelled b.items) pending (c ∷ [])

whole_means : (xs : List Item) (item : Item) (value : List ℕ) (found : ℕ) → map meaning xs ≡ map Some value → meaning item ≡ Some found
    → map meaning (xs ++ item ∷ []) ≡ map Some (value ++ found ∷ [])
whole_means xs item value found e m =
    map-append meaning xs (item ∷ []) ∙ ap (λ t. t ++ meaning item ∷ []) e ∙ ap (λ o. map Some value ++ o ∷ []) m ∙ sym (map-append Some value (found ∷ []))

whole_spells : (text value : List ℕ) (c : ℕ) (pending : List ℕ) (b : Begins text value pending) (item : Item) → spelled item ≡ pending ++ c ∷ []
    → text ++ c ∷ [] ≡ flat_map spelled (b.items ++ item ∷ [])
whole_spells text value c pending b item e =
    next_spells text value c pending b ∙ ap (λ t. flat_map spelled b.items ++ t) (sym e ∙ sym (append-nil (spelled item))) ∙ sym (flat_map-append spelled b.items (item ∷ []))

pub completes : (state : State) (read place : ℕ) (text value : List ℕ) (c found : ℕ)
    → (r : Running (record { state = state; read = read; place = place }) text value)
    → Stepped (r.pending ++ c ∷ []) (Whole found)
    → Took place text value c (Ok (Some found)) (record { state = Text; read = read + 1; place = read + 1 })
completes state read place text value c found r s =
    let item = s.1 in
    let spells = whole_spells text value c r.pending r.front item s.2 in
    let means = whole_means r.front.items item value found r.front.means s.3 in
    let count : read + 1 ≡ length (text ++ c ∷ []) = ap (λ n. n + 1) r.read ∙ sym (one_longer text c) in (
      s.0,
      record {
        pending = [];
        front = record { items = r.front.items ++ item ∷ []; spells = spells ∙ sym (append-nil (flat_map spelled (r.front.items ++ item ∷ []))); means = means };
        keeps = refl;
        read = count;
        place = omega (arith, count);
      },
      record { items = r.front.items ++ item ∷ []; spells = spells; means = means },
      record {
        before = flat_map spelled r.front.items;
        item = item;
        text_is = next_spells text value c r.pending r.front ∙ ap (λ t. flat_map spelled r.front.items ++ t) (sym s.2);
        front = record { items = r.front.items; spells = refl; means = r.front.means };
        means = s.3;
        place_is = (let p = r.place in omega (arith, ap length r.front.spells, length-append (flat_map spelled r.front.items) r.pending));
      },
    )

pub faults : (state : State) (read place : ℕ) (text value : List ℕ) (c : ℕ) (fault : DecodeErrKind)
    → (r : Running (record { state = state; read = read; place = place }) text value)
    → Stepped (r.pending ++ c ∷ []) (Fault fault) → (fault ≢ PrematureEnd) × ((more : List ℕ) → HasFault (text ++ c ∷ more) fault place value)
faults state read place text value c fault r s = (
  s.met,
  λ more. record {
    rest = (r.pending ++ c ∷ []) ++ more;
    front = longest_front (text ++ c ∷ more) value ((r.pending ++ c ∷ []) ++ more) (record {
      items = r.front.items;
      spells = ap (λ t. t ++ c ∷ more) r.front.spells ∙ append_assoc (flat_map spelled r.front.items) r.pending (c ∷ more)
          ∙ ap (λ t. flat_map spelled r.front.items ++ t) (sym (append_assoc r.pending (c ∷ []) more));
      means = r.front.means;
    }) (s.none more);
    some = omega (arith, length-append (r.pending ++ c ∷ []) more, one_longer r.pending c);
    kind = s.kind more;
    place = (let p = r.place in omega (arith, length-append (r.pending ++ c ∷ []) more, one_longer r.pending c, length-append text (c ∷ more)));
  },
)

-- An unfinished entity begins no item, and at the text's end it is the fault.
abbrev pub IsOpen : List ℕ → Type 0
IsOpen pending = NoItem pending × (fault_at pending ≡ PrematureEnd)

nothing_begins : NoItem []
nothing_begins (Plain d) c more m e = cc
nothing_begins (Name name) c more m e = cc
nothing_begins (Decimal digits) c more m e = cc
nothing_begins (Hexadecimal digits) c more m e = cc

open_name : (name : List ℕ) → begins_name name ≡ true → IsOpen (38 ∷ name)
unfolding item_at fault_at
open_name name b = (
  none_begins (38 ∷ name) (ap entity_item (sym (append-nil name)) ∙ entity_of_name name [] b ∙ ap name_item (append-nil name) ∙ name_item_all name (no_end name b)),
  ap entity_fault (sym (append-nil name)) ∙ fault_of_name name [] b ∙ ap name_fault (append-nil name) ∙ ap (λ t. cond t UnknownEntity PrematureEnd) (has_none name (no_end name b)),
)

open_decimal : (ds : List ℕ) → are_digits 10 ds ≡ true → IsOpen (38 ∷ 35 ∷ ds)
unfolding item_at fault_at
open_decimal ds a =
    let all = (and_parts (nat_lt 0 (length ds)) (list_all (λ e. is_digit e 10) ds) a).1 in (
      none_begins (38 ∷ 35 ∷ ds) (ap numbered_item (sym (append-nil ds)) ∙ decimal_item ds [] a ∙ ap (digits_item 10 Decimal) (append-nil ds) ∙ digits_item_all 10 Decimal ds all),
      ap number_fault (sym (append-nil ds)) ∙ decimal_fault ds [] a ∙ ap (digits_fault 10) (append-nil ds) ∙ digits_fault_all 10 ds all,
    )

open_hexadecimal : (ds : List ℕ) → are_digits 16 ds ≡ true → IsOpen (38 ∷ 35 ∷ 120 ∷ ds)
unfolding item_at fault_at
open_hexadecimal ds a =
    let all = (and_parts (nat_lt 0 (length ds)) (list_all (λ e. is_digit e 16) ds) a).1 in
    (none_begins (38 ∷ 35 ∷ 120 ∷ ds) (digits_item_all 16 Hexadecimal ds all), digits_fault_all 16 ds all)

along : (x y : List ℕ) → x ≡ y → IsOpen y → IsOpen x
along x y e h = let P : List ℕ → Type 0 = IsOpen in subst P (sym e) h

pub is_open : (state : State) (pending : List ℕ) → Pending state pending → IsOpen pending
unfolding item_at fault_at
is_open Text pending k = along pending [] k (nothing_begins, refl)
is_open Ampersand pending k = along pending (38 ∷ []) k (none_begins (38 ∷ []) refl, refl)
is_open (Named short) pending k = along pending (38 ∷ k.0) k.1 (open_name k.0 k.2)
is_open Hash pending k = along pending (38 ∷ 35 ∷ []) k (none_begins (38 ∷ 35 ∷ []) refl, refl)
is_open HexMark pending k = along pending (38 ∷ 35 ∷ 120 ∷ []) k (none_begins (38 ∷ 35 ∷ 120 ∷ []) refl, refl)
is_open (InDecimal value) pending k = along pending (38 ∷ 35 ∷ k.0) k.1 (open_decimal k.0 k.2.0)
is_open (InHexadecimal value) pending k = along pending (38 ∷ 35 ∷ 120 ∷ k.0) k.1 (open_hexadecimal k.0 k.2.0)

some_pending : (state : State) (pending : List ℕ) → Pending state pending → state ≢ Text → 0 < length pending
some_pending Text pending k n = absurd (n refl)
some_pending Ampersand pending k n = omega (arith, ap length k)
some_pending (Named short) pending k n = omega (arith, ap length k.1)
some_pending Hash pending k n = omega (arith, ap length k)
some_pending HexMark pending k n = omega (arith, ap length k)
some_pending (InDecimal value) pending k n = omega (arith, ap length k.1)
some_pending (InHexadecimal value) pending k n = omega (arith, ap length k.1)

pub ends_early : (d : Decoder) (text value : List ℕ) → Running d text value → d.state ≢ Text → HasFault text PrematureEnd d.place value
ends_early d text value r n =
    let opened = is_open d.state r.pending r.keeps in
    record {
      rest = r.pending;
      front = longest_front text value r.pending r.front opened.0;
      some = some_pending d.state r.pending r.keeps n;
      kind = sym opened.1;
      place = r.place;
    }
