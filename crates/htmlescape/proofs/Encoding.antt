-- The encoding of a text, a character at a time.
use Rattle.std.proofs.Common.{◌≡◌, ℕ, ◌+◌, ◌≤◌, List, [], ◌∷◌, ◌++◌, length, take, drop, Result, Ok, Err, sym, ◌∙◌, ap, subst, arith, append_assoc, append-nil, length-append, IsUtf8, chars}
use lib.Utf8.{encodes, encode}
use Rattle.std.proofs.lemmas.Str.{chars_past_char, chars-nil, encodes-append, IsUtf8-past_char}
use Rattle.std.proofs.lemmas.List.{take-append-drop, nil_from_length, length-take-le}
use Rattle.std.proofs.Math.Seq.{take-append_seam, drop-append_seam}
use Rattle.dav_io.specs.declared.failure.Failed.{Failed}
use Rattle.dav_io.specs.Outside.{Stream}
use Rattle.htmlescape.specs.declared.alphabet.Alphabet.{Alphabet}
use Rattle.htmlescape.specs.Escapes.{escaped, encoded}
use Rattle.dav_io.specs.Appending.{Appends}
use Rattle.dav_io.proofs.AppendingLemmas.{appends_refused, appends_last}

-- the bytes of the encoding of the text that these bytes spell
abbrev pub bytes_for : Alphabet → List ℕ → List ℕ
bytes_for a bs = encodes (encoded a (chars bs))

pub encode_step : (a : Alphabet) (bs rest : List ℕ) (c : ℕ) → IsUtf8 bs → bs ≡ encode c ++ rest
    → bytes_for a bs ≡ encodes (escaped a c) ++ bytes_for a rest
encode_step a bs rest c u e =
    ap (λ t. encodes (encoded a t)) (chars_past_char bs rest c u e) ∙ encodes-append (escaped a c) (encoded a (chars rest))

pub cut : (xs ys zs : List ℕ) (n : ℕ) → xs ≡ ys ++ zs → length ys ≡ n → (take n xs ≡ ys) × (drop n xs ≡ zs)
cut xs ys zs n e l = (
  ap (take n) e ∙ ap (λ k. take k (ys ++ zs)) (sym l) ∙ take-append_seam ys zs,
  ap (drop n) e ∙ ap (λ k. drop k (ys ++ zs)) (sym l) ∙ drop-append_seam ys zs,
)

whole : (rest left : List ℕ) (run : ℕ) → drop run rest ≡ left → rest ≡ take run rest ++ left
whole rest left run e = sym (take-append-drop run rest) ∙ ap (λ t. take run rest ++ t) e

-- what a run and what is left make
pub record Left (a : Alphabet) (whole_text rest remaining : List ℕ) (run : ℕ) (done : List ℕ) : Type 0 where
  pub within : run ≤ length rest
  pub left : drop run rest ≡ remaining
  pub utf8 : IsUtf8 remaining
  pub total : done ++ (take run rest ++ bytes_for a remaining) ≡ whole_text

-- a character stays
pub stays : (a : Alphabet) (total rest left after : List ℕ) (run c n : ℕ) (done : List ℕ) → Left a total rest left run done → left ≡ encode c ++ after
    → escaped a c ≡ c ∷ []
    → n ≡ length (encode c) → Left a total rest after (run + n) done
stays a total rest left after run c n done i e s l =
    let split : rest ≡ (take run rest ++ encode c) ++ after = whole rest left run i.left ∙ ap (λ t. take run rest ++ t) e ∙ sym (append_assoc (take run rest) (encode c) after) in
    let size : length (take run rest ++ encode c) ≡ run + n = length-append (take run rest) (encode c) ∙ (let k = length-take-le run rest i.within in omega arith) in
    let parts = cut rest (take run rest ++ encode c) after (run + n) split size in
    let one : encodes (escaped a c) ≡ encode c = ap encodes s ∙ append-nil (encode c) in
    record {
      within = omega (arith, ap length split, length-append (take run rest ++ encode c) after);
      left = parts.1;
      utf8 = IsUtf8-past_char left after c i.utf8 e;
      total =
          ap (λ t. done ++ (t ++ bytes_for a after)) parts.0 ∙ ap (λ t. done ++ t) (append_assoc (take run rest) (encode c) (bytes_for a after)
          ∙ ap (λ t. take run rest ++ t) (ap (λ t. t ++ bytes_for a after) (sym one) ∙ sym (encode_step a left after c i.utf8 e))) ∙ i.total;
    }

-- a character is replaced
replaced_total : (a : Alphabet) (total rest left after : List ℕ) (run c : ℕ) (done text : List ℕ) → Left a total rest left run done
    → left ≡ encode c ++ after
    → text ≡ encodes (escaped a c) → done ++ ((take run rest ++ text) ++ bytes_for a after) ≡ total
replaced_total a total rest left after run c done text i e t =
    ap (λ u. done ++ u) (append_assoc (take run rest) text (bytes_for a after) ∙ ap (λ u. take run rest ++ u) (ap (λ u. u ++ bytes_for a after) t ∙ sym (encode_step a left after c i.utf8 e))) ∙ i.total

pub replaced : (a : Alphabet) (total rest left after : List ℕ) (run c n : ℕ) (done text : List ℕ) → Left a total rest left run done
    → left ≡ encode c ++ after
    → text ≡ encodes (escaped a c) → n ≡ length (encode c) → Left a total (drop n (drop run rest)) after 0 (done ++ (take run rest ++ text))
replaced a total rest left after run c n done text i e t l = record {
  within = omega arith;
  left = (cut (drop run rest) (encode c) after n (i.left ∙ e) (sym l)).1;
  utf8 = IsUtf8-past_char left after c i.utf8 e;
  total = append_assoc done (take run rest ++ text) (bytes_for a after) ∙ replaced_total a total rest left after run c done text i e t;
}

-- the writer refuses the run or what stands for the character
pub refused : (a : Alphabet) (total rest left after : List ℕ) (run c : ℕ) (done text : List ℕ) (s m t : Stream) (f : Failed)
    → Left a total rest left run done → left ≡ encode c ++ after
    → text ≡ encodes (escaped a c) → Appends s done (Ok tt) m → Appends m (take run rest ++ text) (Err f) t → Appends s total (Err f) t
refused a total rest left after run c done text s m t f i e k p q =
    let P : List ℕ → Type 0 = λ u. Appends s u (Err f) t in
    subst P (replaced_total a total rest left after run c done text i e k) (appends_refused s m t done (take run rest ++ text) (bytes_for a after) f p q)

-- no character is left
pub last : (a : Alphabet) (total rest left : List ℕ) (run : ℕ) (done : List ℕ) (s m t : Stream) (r : Result (Unit {0}) Failed)
    → Left a total rest left run done → length left ≡ 0
    → Appends s done (Ok tt) m → Appends m rest r t → Appends s total r t
last a total rest left run done s m t r i none p q =
    let P : List ℕ → Type 0 = λ u. Appends s u r t in
    let empty : left ≡ [] = nil_from_length left none in
    let nothing : bytes_for a left ≡ [] = ap (bytes_for a) empty ∙ ap (λ t. encodes (encoded a t)) chars-nil in
    let same : rest ≡ take run rest ++ bytes_for a left = whole rest left run i.left ∙ ap (λ t. take run rest ++ t) (empty ∙ sym nothing) in
    subst P (ap (λ u. done ++ u) same ∙ i.total) (appends_last s m t done rest r p q)

-- at the start
pub begun : (a : Alphabet) (bytes rest left : List ℕ) → IsUtf8 bytes → rest ≡ bytes → left ≡ bytes → Left a (bytes_for a bytes) rest left 0 []
begun a bytes rest left u e f = record {
  within = omega arith;
  left = e ∙ sym f;
  utf8 = (let P : List ℕ → Type 0 = IsUtf8 in subst P (sym f) u);
  total = ap (bytes_for a) f;
}
