-- The longest list of whole items at a text's front is one.
use Rattle.std.proofs.Common.{◌≡◌, ◌≤◌, ℕ, List, [], ◌∷◌, ◌++◌, map, length, Some, refl, sym, ◌∙◌, ap, arith, append_assoc, append-nil, length-append}
use Rattle.std.specs.List.{flat_map}
use Rattle.htmlescape.specs.Grammar.{Item, Plain, Name, Decimal, Hexadecimal, spelled, meaning, IsText, Begins, LongestFront, HasFault, fault_at}
use Rattle.htmlescape.specs.declared.faults.DecodeErrKind.{DecodeErrKind}
use Rattle.htmlescape.specs.Running.{NoItem}
use Rattle.htmlescape.proofs.Items.{item_at, item_back}

spelled_some : (item : Item) → 1 ≤ length (spelled item)
spelled_some (Plain c) = omega arith
spelled_some (Name name) = omega arith
spelled_some (Decimal digits) = omega arith
spelled_some (Hexadecimal digits) = omega arith

first_means : (item : Item) (items : List Item) (c : ℕ) (value : List ℕ) → map meaning (item ∷ items) ≡ map Some (c ∷ value) → meaning item ≡ Some c
first_means item items c value e = cc

rest_means : (item : Item) (items : List Item) (c : ℕ) (value : List ℕ) → map meaning (item ∷ items) ≡ map Some (c ∷ value)
    → map meaning items ≡ map Some value
rest_means item items c value e = cc

some_same : (a b : Item × List ℕ) → Some a ≡ Some b → a ≡ b
some_same a b e = cc

-- two lists of items that begin alike
rest_same : (i o : Item) (c d : ℕ) (x y : List ℕ) → meaning i ≡ Some c → meaning o ≡ Some d → spelled i ++ x ≡ spelled o ++ y → (i ≡ o) × (x ≡ y)
rest_same i o c d x y p q e =
    let s = some_same (i, x) (o, y) (sym (item_back i c x p) ∙ ap item_at e ∙ item_back o d y q) in
    (ap (λ r. r.0) s, ap (λ r. r.1) s)

regroup : (i o : Item) (xs ys : List Item) (rest more : List ℕ) → flat_map spelled (i ∷ xs) ++ rest ≡ flat_map spelled (o ∷ ys) ++ more
    → spelled i ++ (flat_map spelled xs ++ rest) ≡ spelled o ++ (flat_map spelled ys ++ more)
regroup i o xs ys rest more e = sym (append_assoc (spelled i) (flat_map spelled xs) rest) ∙ e ∙ append_assoc (spelled o) (flat_map spelled ys) more

longest_by : (items others : List Item) (v w rest more : List ℕ) → map meaning items ≡ map Some v → map meaning others ≡ map Some w
    → flat_map spelled items ++ rest ≡ flat_map spelled others ++ more → NoItem rest → length rest ≤ length more
longest_by [] [] v w rest more p q e n = let l = ap length e in omega arith
longest_by [] (o ∷ os) v [] rest more p q e n = cc
longest_by [] (o ∷ os) v (c ∷ w) rest more p q e n =
    absurd (n o c (flat_map spelled os ++ more) (first_means o os c w q) (e ∙ append_assoc (spelled o) (flat_map spelled os) more))
longest_by (i ∷ xs) [] v w rest more p q e n = omega (arith, ap length e, length-append (flat_map spelled (i ∷ xs)) rest)
longest_by (i ∷ xs) (o ∷ os) [] w rest more p q e n = cc
longest_by (i ∷ xs) (o ∷ os) (c ∷ v) [] rest more p q e n = cc
longest_by (i ∷ xs) (o ∷ os) (c ∷ v) (d ∷ w) rest more p q e n =
    let s = rest_same i o c d _ _ (first_means i xs c v p) (first_means o os d w q) (regroup i o xs os rest more e) in
    longest_by xs os v w rest more (rest_means i xs c v p) (rest_means o os d w q) s.1 n

same_by : (items others : List Item) (v w rest more : List ℕ) → map meaning items ≡ map Some v → map meaning others ≡ map Some w
    → flat_map spelled items ++ rest ≡ flat_map spelled others ++ more → length rest ≡ length more → (v ≡ w) × (rest ≡ more)
same_by [] [] [] [] rest more p q e l = (refl, e)
same_by [] [] (c ∷ v) w rest more p q e l = cc
same_by [] [] [] (d ∷ w) rest more p q e l = cc
same_by [] (o ∷ os) v w rest more p q e l =
    absurd (omega (arith, ap length e, length-append (flat_map spelled (o ∷ os)) more, length-append (spelled o) (flat_map spelled os), spelled_some o))
same_by (i ∷ xs) [] v w rest more p q e l =
    absurd (omega (arith, ap length e, length-append (flat_map spelled (i ∷ xs)) rest, length-append (spelled i) (flat_map spelled xs), spelled_some i))
same_by (i ∷ xs) (o ∷ os) [] w rest more p q e l = cc
same_by (i ∷ xs) (o ∷ os) (c ∷ v) [] rest more p q e l = cc
same_by (i ∷ xs) (o ∷ os) (c ∷ v) (d ∷ w) rest more p q e l =
    let m = first_means i xs c v p in
    let n = first_means o os d w q in
    let s = rest_same i o c d _ _ m n (regroup i o xs os rest more e) in
    let t = same_by xs os v w rest more (rest_means i xs c v p) (rest_means o os d w q) s.1 l in
    let k : c ≡ d = (let u = sym m ∙ ap meaning s.0 ∙ n in cc) in
    (ap (λ x. x ∷ v) k ∙ ap (λ xs. d ∷ xs) t.0, t.1)

pub longest_front : (text value rest : List ℕ) → Begins text value rest → NoItem rest → LongestFront text value rest
longest_front text value rest b n = record {
  front = b;
  longest = λ other more h. longest_by b.items h.items value other rest more b.means h.means (sym b.spells ∙ h.spells) n;
}

pub front_unique : (text v w rest more : List ℕ) → LongestFront text v rest → LongestFront text w more → (v ≡ w) × (rest ≡ more)
front_unique text v w rest more f g =
    let low = f.longest w more g.front in
    let high = g.longest v rest f.front in
    same_by f.front.items g.front.items v w rest more f.front.means g.front.means (sym f.front.spells ∙ g.front.spells) (omega arith)

pub whole_front : (text value : List ℕ) → IsText text value → LongestFront text value []
whole_front text value t = record {
  front = record { items = t.items; spells = t.spells ∙ sym (append-nil (flat_map spelled t.items)); means = t.means };
  longest = λ other more h. omega arith;
}

pub text_unique : (text v w : List ℕ) → IsText text v → IsText text w → v ≡ w
text_unique text v w s t = (front_unique text v w [] [] (whole_front text v s) (whole_front text w t)).0

pub text_faultless : (text v w : List ℕ) (fault : DecodeErrKind) (place : ℕ) → IsText text v → HasFault text fault place w → ⊥
text_faultless text v w fault place t f =
    let same = (front_unique text v w [] f.rest (whole_front text v t) f.front).1 in
    let some = f.some in
    omega (arith, ap length same)

pub fault_unique : (text v w : List ℕ) (j k : DecodeErrKind) (p q : ℕ) → HasFault text j p v → HasFault text k q w → (j ≡ k) × (p ≡ q) × (v ≡ w)
fault_unique text v w j k p q f g =
    let same = front_unique text v w f.rest g.rest f.front g.front in
    let one = f.place in
    let two = g.place in
    (f.kind ∙ ap fault_at same.1 ∙ sym g.kind, (let l = ap length same.1 in omega arith), same.0)
