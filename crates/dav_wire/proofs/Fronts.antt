-- What spans cover of a buffer's front.
use Rattle.std.proofs.Common.{◌≡◌, ℕ, ◌+◌, ◌-◌, ◌≤◌, List, [], ◌∷◌, drop, take, map, All, refl, sym, ap, ap₂, ◌∙◌, arith}
use Rattle.std.proofs.lemmas.List.Elements.{All-head, All-tail}
use Rattle.std.proofs.lemmas.List.{drop-take, take-take}
use Rattle.std.specs.List.{slice_range}
use Rattle.httparse.specs.Spans.{IsHeaderWithin, IsWithin, header_bytes, span_bytes}
use Rattle.httparse.specs.declared.spans.Span.{Span}
use Rattle.httparse.specs.declared.spans.HeaderSpan.{HeaderSpan}

range_same : (buf : List ℕ) (n a b : ℕ) → a ≤ b → b ≤ n → slice_range (take n buf) a b ≡ slice_range buf a b
range_same buf n a b start end =
    let whole : a + (n - a) ≡ n = omega arith in
    ap (λ k. take (b - a) (drop a (take k buf))) (sym whole) ∙ ap (take (b - a)) (drop-take a (n - a) buf) ∙ take-take (b - a) (n - a) (drop a buf) (omega arith)

-- A copy of the front of a buffer has what a span within it covers of the whole.
pub span_same : (buf whole : List ℕ) (n : ℕ) (span : Span) → whole ≡ take n buf → IsWithin n span → span_bytes whole span ≡ span_bytes buf span
span_same buf whole n span same within = ap (λ (x : List ℕ). span_bytes x span) same ∙ range_same buf n span.start span.end within.0 within.1

-- The front of a buffer has what spans within it cover of the whole.
pub front_same : (buf : List ℕ) (n : ℕ) (spans : List HeaderSpan) → All (IsHeaderWithin n) spans
    → map (header_bytes (take n buf)) spans ≡ map (header_bytes buf) spans
front_same buf n [] within = refl
front_same buf n (span ∷ spans) within =
    let here : IsHeaderWithin n span = All-head (IsHeaderWithin n) span spans within in
    ap₂ (λ a b. a ∷ b)
    (ap₂ (λ name value. (name, value)) (range_same buf n _ _ here.0.0 here.0.1) (range_same buf n _ _ here.1.0 here.1.1))
    (front_same buf n spans (All-tail (IsHeaderWithin n) span spans within))
