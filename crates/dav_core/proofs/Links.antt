-- Links, and that they decode to what they were made of.
use Rattle.std.proofs.Common.{◌≡◌, ℕ, ◌<◌, Bool, true, false, not, List, [], ◌∷◌, ◌++◌, cond, All, refl, sym, ap, ap₂, ◌∙◌, arith, inl, inr}
use Rattle.std.proofs.lemmas.Bool.{agree_below, agree_below_at, cases_lt}
use Rattle.std.proofs.lemmas.Bool.Decides.{nat_tests}
use Rattle.percent_encoding.specs.AsciiSet.{contains, should_percent_encode}
use Rattle.percent_encoding.specs.Percent.{percent_encode, percent_decode, encode_byte}
use Rattle.percent_encoding.proofs.PercentLemmas.{round_trip}
use Rattle.dav_core.specs.declared.url.TheConstants.{LINK}
use Rattle.dav_core.specs.DavPath.{stays, link_byte, link_of}

link_table : agree_below (contains LINK) (λ b. not (stays b)) 128 ≡ true
link_table = refl

-- the set of `LINK` is what links leave out
pub escapes : (b : ℕ) → should_percent_encode LINK b ≡ not (stays b)
unfolding should_percent_encode
escapes b = elim (cases_lt b 128) [
  | inl small ↦ let same = agree_below_at (contains LINK) (λ c. not (stays c)) 128 b link_table small in grind (arith, nat_tests)
  | inr wide ↦ grind (arith, nat_tests)
]

link_has_percent : contains LINK 37 ≡ true
link_has_percent = refl

flip : {A : Type 0} (b : Bool) (x y : A) → cond (not b) x y ≡ cond b y x
flip true x y = refl
flip false x y = refl

one : (b : ℕ) → encode_byte LINK b ≡ link_byte b
one b = rw (escapes b) (flip (stays b) _ _)

-- what `percent_encode` writes is the link
pub link_is : (bytes : List ℕ) → percent_encode LINK bytes ≡ link_of bytes
unfolding percent_encode
link_is [] = refl
link_is (b ∷ bytes) = ap₂ ◌++◌ (one b) (link_is bytes)

pub link_decodes : (bytes : List ℕ) → All (λ b. b < 256) bytes → percent_decode (link_of bytes) ≡ bytes
link_decodes bytes small = ap percent_decode (sym (link_is bytes)) ∙ round_trip LINK bytes link_has_percent small
