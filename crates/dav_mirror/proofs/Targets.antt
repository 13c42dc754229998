-- The link of a path is the target of a request, and leads back to the path.
use Rattle.std.proofs.Common.{◌≡◌, None, ℕ, ◌≤◌, ◌==◌, ◌||◌, Bool, true, false, not, List, [], ◌∷◌, ◌++◌, length, All, refl, sym, ap, subst, ◌∙◌, flat_map, true≢false, arith}
use Rattle.std.proofs.lemmas.Bool.{cond_both}
use Rattle.std.proofs.lemmas.Bool.Decides.{nat_tests}
use Rattle.std.proofs.lemmas.List.Elements.{All-nil, All-cons, All-append, All-weaker}
use Rattle.http_uri.specs.declared.uri.Uri.{Uri}
use Rattle.http_uri.specs.Uri.{HasParts, uri_path}
use Rattle.http_uri.specs.Grammar.{IsPathInput, without_fragment}
use Rattle.percent_encoding.specs.Percent.{percent_encode_byte}
use Rattle.percent_encoding.proofs.PercentLemmas.{IsEscapeByte, All-percent_encode_byte}
use Rattle.dav_core.specs.DavPath.{IsPath, WebPath, final_slash, link_byte, link_of, shown, slashed, stays}
use Rattle.dav_core.specs.Path.{Names}
use Rattle.dav_core.proofs.UriPaths.{IsUriByte, begun_is_input, begun_path}
use Rattle.dav_fetch.specs.Peer.{links_most}
use Rattle.dav_mirror.specs.Asking.{CanBeTarget}

-- ---- bytes of a link

escape_byte : (b : ℕ) → IsEscapeByte b → IsUriByte b
escape_byte b h = record { path = grind (arith, nat_tests); mark = grind (arith, nat_tests); hash = grind (arith, nat_tests); ascii = grind arith }

kept_byte : (b : ℕ) → stays b ≡ true → IsUriByte b
kept_byte b e = record { path = grind (arith, nat_tests); mark = grind (arith, nat_tests); hash = grind (arith, nat_tests); ascii = grind (arith, nat_tests) }

link_byte_bytes : (b : ℕ) → All IsUriByte (link_byte b)
link_byte_bytes b =
    cond_both (stays b) (b ∷ []) (percent_encode_byte b) (All IsUriByte)
    (λ e. All-cons IsUriByte b [] (kept_byte b e) (All-nil IsUriByte))
    (λ _. All-weaker IsEscapeByte IsUriByte escape_byte (percent_encode_byte b) (All-percent_encode_byte b))

link_bytes : (bs : List ℕ) → All IsUriByte (link_of bs)
link_bytes [] = All-nil IsUriByte
link_bytes (b ∷ bs) = All-append IsUriByte (link_byte b) (link_of bs) (link_byte_bytes b) (link_bytes bs)

-- ---- a link begins with a slash

begins : (prefix names : Names) (slash : Bool) → (not (length names == 0) || slash) ≡ true
    → (rest : List ℕ) × (link_of (flat_map slashed prefix ++ (flat_map slashed names ++ final_slash slash)) ≡ 47 ∷ rest)
begins (name ∷ prefix) names slash well = (link_of ((name ++ flat_map slashed prefix) ++ (flat_map slashed names ++ final_slash slash)), refl)
begins [] (name ∷ names) slash well = (link_of ((name ++ flat_map slashed names) ++ final_slash slash), refl)
begins [] [] true well = ([], refl)
begins [] [] false well = absurd (true≢false (sym well))

begun : (path : WebPath) → IsPath path → (rest : List ℕ) × (link_of (shown path) ≡ 47 ∷ rest)
begun path is = begins path.prefix path.names path.slash is.ends

bytes_begun : (path : WebPath) (rest : List ℕ) → link_of (shown path) ≡ 47 ∷ rest → All IsUriByte (47 ∷ rest)
bytes_begun path rest e = subst (All IsUriByte) e (link_bytes (shown path))

pub link_is_input : (path : WebPath) (text : List ℕ) → CanBeTarget path → text ≡ link_of (shown path) → IsPathInput text
link_is_input path text can is =
    let (rest, e) = begun path can.is in
    let few : length (47 ∷ rest) ≤ links_most = subst (λ t. length t ≤ links_most) e can.short in
    subst IsPathInput (sym (is ∙ e)) (begun_is_input rest (bytes_begun path rest e) (omega (arith, few)))

pub link_is_path : (path : WebPath) (u : Uri) (text kept : List ℕ) → CanBeTarget path → text ≡ link_of (shown path) → kept ≡ without_fragment text → HasParts u None None kept
    → uri_path u ≡ link_of (shown path)
link_is_path path u text kept can is cut parts =
    let (rest, e) = begun path can.is in
    begun_path u rest kept (bytes_begun path rest e) (cut ∙ ap without_fragment (is ∙ e)) parts ∙ sym e
