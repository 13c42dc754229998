-- How a client knows where the body of an answer ends (RFC 9112, section 6.3).
use Rattle.std.specs.Prelude.{◌≡◌, ◌⊎◌, ◌<◌, ◌^◌, ◌++◌, ℕ, All, List, [], length, true, false, codes, decimal, Some}
use Rattle.std.specs.List.{concat, flat_map}
use Rattle.http.specs.declared.version.TheConstants.Version.{HTTP_10}
use Rattle.http.specs.Request.{head_of}
use Rattle.dav_model.specs.Announced.{length_is_own, value_of}
use Rattle.dav_model.specs.Rules.{Rules}
use Rattle.dav_model.specs.Trail.{target_of}
use Rattle.dav_wire.specs.Answers.{head_text}
use Rattle.dav_wire.specs.Chunks.{HasBody, ending, written}
use Rattle.dav_wire.specs.declared.chunks.Framing.TheVariants.{Raw, Chunked}
use Rattle.dav_serving.specs.Exchange.{Exchange, framing_of, is_closed, wire_of}

-- the answer to a HEAD
abbrev pub IsToHead : Exchange → Type 0
IsToHead x = (head_of x.request).method ≡ codes "HEAD"

-- An answer to which a client expects no body, whatever its fields say.
abbrev pub IsBodiless : Exchange → Type 0
IsBodiless x = IsToHead x ⊎ ((x.status ≡ 204) ⊎ (x.status ≡ 304))

-- Its head is the whole answer.
abbrev pub IsHeadAlone : Exchange → Type 0
IsHeadAlone x = wire_of x ≡ head_text x.status x.fields x.closing Raw

-- The answer says this value of `content-length`.
abbrev pub Announces : Exchange → List ℕ → Type 0
Announces x value = value_of (codes "content-length") x.fields ≡ Some value

-- the value is that of a greater number
abbrev pub AnnouncesMore : List ℕ → ℕ → Type 0
AnnouncesMore value count = (n : ℕ) × (value ≡ decimal n) × (count < n)

abbrev pub HasLength : Exchange → Type 0
HasLength x = (value : List ℕ) × Announces x value

-- A client of version 1.0 reads to the end of the connection.
abbrev pub EndsWithConnection : Exchange → Type 0
EndsWithConnection x = ((head_of x.request).version ≡ HTTP_10) × (is_closed x ≡ true)

-- What tells a client where the body ends: that there is none, its chunks, its length, or the end of the connection.
abbrev pub TellsEnd : Exchange → Type 0
TellsEnd x = IsBodiless x ⊎ ((framing_of x ≡ Chunked) ⊎ (HasLength x ⊎ EndsWithConnection x))

abbrev pub IsNonempty : List ℕ → Type 0
IsNonempty piece = 0 < length piece

-- A piece whose size has at most 16 hexadecimal digits, as that of all that stands in memory.
abbrev pub IsShort : List ℕ → Type 0
IsShort piece = length piece < 16 ^ 16

-- The body, as it is written in chunks, is read back as the bytes of the pieces, whatever follows.
abbrev pub IsReadBack : Exchange → Type 0
IsReadBack x = (behind : List ℕ) → HasBody (flat_map (written (framing_of x)) x.pieces
    ++ (ending (framing_of x) ++ behind)) (concat x.pieces) behind

-- The bytes of the body are as many as the answer announces, and all that stands behind the head. There are none where
-- the field speaks of a body that isn't sent, and nothing stands behind the head of an answer to which no body is
-- expected. No piece is empty, and chunks are read back.
pub record GivesAnnounced (rules : Rules) (x : Exchange) : Type 0 where
  pub counted : length_is_own (target_of rules x.request) x.status ≡ true → (value : List ℕ) → Announces x value
      → value ≡ decimal (length (concat x.pieces))
  pub none : length_is_own (target_of rules x.request) x.status ≡ false → x.pieces ≡ []
  pub written : (value : List ℕ) → Announces x value → wire_of x ≡ head_text x.status x.fields x.closing Raw
      ++ concat x.pieces
  pub bodiless : IsBodiless x → IsHeadAlone x
  pub full : All IsNonempty x.pieces
  pub chunked : framing_of x ≡ Chunked → All IsShort x.pieces → IsReadBack x
  pub tells : TellsEnd x
