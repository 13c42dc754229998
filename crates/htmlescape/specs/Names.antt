-- The named entities of HTML 4.01, by the numbers of their characters: sections 24.2, 24.3 and 24.4.
use Rattle.std.specs.Prelude.{ℕ, ◌+◌, List, [], ◌∷◌, ◌++◌, Option, codes, bytes_eq}
use Rattle.std.specs.Map.{lookup}
use Prim.Native.String.{String}

-- these names, for the characters from n on
abbrev pub numbered : ℕ → List String → List (List ℕ × ℕ)
numbered n [] = []
numbered n (name ∷ names) = (codes name, n) ∷ numbered (n + 1) names

-- section 24.2, ISO 8859-1 characters
unfoldable pub latin : List (List ℕ × ℕ)
latin =
    numbered 160 ("nbsp" ∷ "iexcl" ∷ "cent" ∷ "pound" ∷ "curren" ∷ "yen" ∷ "brvbar" ∷ "sect" ∷ "uml" ∷ "copy" ∷ "ordf"
    ∷ "laquo" ∷ "not" ∷ "shy" ∷ "reg" ∷ "macr" ∷ "deg" ∷ "plusmn" ∷ "sup2" ∷ "sup3" ∷ "acute" ∷ "micro" ∷ "para"
    ∷ "middot" ∷ "cedil" ∷ "sup1" ∷ "ordm" ∷ "raquo" ∷ "frac14" ∷ "frac12" ∷ "frac34" ∷ "iquest" ∷ "Agrave"
    ∷ "Aacute" ∷ "Acirc" ∷ "Atilde" ∷ "Auml" ∷ "Aring" ∷ "AElig" ∷ "Ccedil" ∷ "Egrave" ∷ "Eacute" ∷ "Ecirc"
    ∷ "Euml" ∷ "Igrave" ∷ "Iacute" ∷ "Icirc" ∷ "Iuml" ∷ "ETH" ∷ "Ntilde" ∷ "Ograve" ∷ "Oacute" ∷ "Ocirc"
    ∷ "Otilde" ∷ "Ouml" ∷ "times" ∷ "Oslash" ∷ "Ugrave" ∷ "Uacute" ∷ "Ucirc" ∷ "Uuml" ∷ "Yacute" ∷ "THORN"
    ∷ "szlig" ∷ "agrave" ∷ "aacute" ∷ "acirc" ∷ "atilde" ∷ "auml" ∷ "aring" ∷ "aelig" ∷ "ccedil" ∷ "egrave"
    ∷ "eacute" ∷ "ecirc" ∷ "euml" ∷ "igrave" ∷ "iacute" ∷ "icirc" ∷ "iuml" ∷ "eth" ∷ "ntilde" ∷ "ograve"
    ∷ "oacute" ∷ "ocirc" ∷ "otilde" ∷ "ouml" ∷ "divide" ∷ "oslash" ∷ "ugrave" ∷ "uacute" ∷ "ucirc" ∷ "uuml"
    ∷ "yacute" ∷ "thorn" ∷ "yuml" ∷ [])

-- section 24.3, symbols, mathematical symbols and Greek letters
unfoldable pub symbols : List (List ℕ × ℕ)
symbols =
    numbered 402 ("fnof" ∷ [])
    ++ (numbered 913 ("Alpha" ∷ "Beta" ∷ "Gamma" ∷ "Delta" ∷ "Epsilon" ∷ "Zeta" ∷ "Eta" ∷ "Theta" ∷ "Iota" ∷ "Kappa"
    ∷ "Lambda" ∷ "Mu" ∷ "Nu" ∷ "Xi" ∷ "Omicron" ∷ "Pi" ∷ "Rho" ∷ [])
    ++ (numbered 931 ("Sigma" ∷ "Tau" ∷ "Upsilon" ∷ "Phi" ∷ "Chi" ∷ "Psi" ∷ "Omega" ∷ [])
    ++ (numbered 945 ("alpha" ∷ "beta" ∷ "gamma" ∷ "delta" ∷ "epsilon" ∷ "zeta" ∷ "eta" ∷ "theta" ∷ "iota" ∷ "kappa"
    ∷ "lambda" ∷ "mu" ∷ "nu" ∷ "xi" ∷ "omicron" ∷ "pi" ∷ "rho" ∷ "sigmaf" ∷ "sigma" ∷ "tau" ∷ "upsilon" ∷ "phi"
    ∷ "chi" ∷ "psi" ∷ "omega" ∷ [])
    ++ (numbered 977 ("thetasym" ∷ "upsih" ∷ [])
    ++ (numbered 982 ("piv" ∷ [])
    ++ (numbered 8226 ("bull" ∷ [])
    ++ (numbered 8230 ("hellip" ∷ [])
    ++ (numbered 8242 ("prime" ∷ "Prime" ∷ [])
    ++ (numbered 8254 ("oline" ∷ [])
    ++ (numbered 8260 ("frasl" ∷ [])
    ++ (numbered 8465 ("image" ∷ [])
    ++ (numbered 8472 ("weierp" ∷ [])
    ++ (numbered 8476 ("real" ∷ [])
    ++ (numbered 8482 ("trade" ∷ [])
    ++ (numbered 8501 ("alefsym" ∷ [])
    ++ (numbered 8592 ("larr" ∷ "uarr" ∷ "rarr" ∷ "darr" ∷ "harr" ∷ [])
    ++ (numbered 8629 ("crarr" ∷ [])
    ++ (numbered 8656 ("lArr" ∷ "uArr" ∷ "rArr" ∷ "dArr" ∷ "hArr" ∷ [])
    ++ (numbered 8704 ("forall" ∷ [])
    ++ (numbered 8706 ("part" ∷ "exist" ∷ [])
    ++ (numbered 8709 ("empty" ∷ [])
    ++ (numbered 8711 ("nabla" ∷ "isin" ∷ "notin" ∷ [])
    ++ (numbered 8715 ("ni" ∷ [])
    ++ (numbered 8719 ("prod" ∷ [])
    ++ (numbered 8721 ("sum" ∷ "minus" ∷ [])
    ++ (numbered 8727 ("lowast" ∷ [])
    ++ (numbered 8730 ("radic" ∷ [])
    ++ (numbered 8733 ("prop" ∷ "infin" ∷ [])
    ++ (numbered 8736 ("ang" ∷ [])
    ++ (numbered 8743 ("and" ∷ "or" ∷ "cap" ∷ "cup" ∷ "int" ∷ [])
    ++ (numbered 8756 ("there4" ∷ [])
    ++ (numbered 8764 ("sim" ∷ [])
    ++ (numbered 8773 ("cong" ∷ [])
    ++ (numbered 8776 ("asymp" ∷ [])
    ++ (numbered 8800 ("ne" ∷ "equiv" ∷ [])
    ++ (numbered 8804 ("le" ∷ "ge" ∷ [])
    ++ (numbered 8834 ("sub" ∷ "sup" ∷ "nsub" ∷ [])
    ++ (numbered 8838 ("sube" ∷ "supe" ∷ [])
    ++ (numbered 8853 ("oplus" ∷ [])
    ++ (numbered 8855 ("otimes" ∷ [])
    ++ (numbered 8869 ("perp" ∷ [])
    ++ (numbered 8901 ("sdot" ∷ [])
    ++ (numbered 8968 ("lceil" ∷ "rceil" ∷ "lfloor" ∷ "rfloor" ∷ [])
    ++ (numbered 9001 ("lang" ∷ "rang" ∷ [])
    ++ (numbered 9674 ("loz" ∷ [])
    ++ (numbered 9824 ("spades" ∷ [])
    ++ (numbered 9827 ("clubs" ∷ [])
    ++ (numbered 9829 ("hearts" ∷ "diams" ∷ [])))))))))))))))))))))))))))))))))))))))))))))))))

-- section 24.4, markup-significant and internationalization characters
unfoldable pub special : List (List ℕ × ℕ)
special =
    numbered 34 ("quot" ∷ [])
    ++ (numbered 38 ("amp" ∷ [])
    ++ (numbered 60 ("lt" ∷ [])
    ++ (numbered 62 ("gt" ∷ [])
    ++ (numbered 338 ("OElig" ∷ "oelig" ∷ [])
    ++ (numbered 352 ("Scaron" ∷ "scaron" ∷ [])
    ++ (numbered 376 ("Yuml" ∷ [])
    ++ (numbered 710 ("circ" ∷ [])
    ++ (numbered 732 ("tilde" ∷ [])
    ++ (numbered 8194 ("ensp" ∷ "emsp" ∷ [])
    ++ (numbered 8201 ("thinsp" ∷ [])
    ++ (numbered 8204 ("zwnj" ∷ "zwj" ∷ "lrm" ∷ "rlm" ∷ [])
    ++ (numbered 8211 ("ndash" ∷ "mdash" ∷ [])
    ++ (numbered 8216 ("lsquo" ∷ "rsquo" ∷ "sbquo" ∷ [])
    ++ (numbered 8220 ("ldquo" ∷ "rdquo" ∷ "bdquo" ∷ [])
    ++ (numbered 8224 ("dagger" ∷ "Dagger" ∷ [])
    ++ (numbered 8240 ("permil" ∷ [])
    ++ (numbered 8249 ("lsaquo" ∷ "rsaquo" ∷ [])
    ++ (numbered 8364 ("euro" ∷ [])))))))))))))))))))

unfoldable pub entities : List (List ℕ × ℕ)
entities = latin ++ (symbols ++ special)

-- the character that a name stands for. Case matters.
unfoldable pub named : List ℕ → Option ℕ
named name = lookup (bytes_eq name) entities
