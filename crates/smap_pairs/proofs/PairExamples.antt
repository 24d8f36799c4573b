-- The pairs of lines, worked by hand.
use Rattle.std.proofs.Common.{◌≡◌, ◌++◌, ℕ, List, [], ◌∷◌, Some, None, codes, map, refl}
use Rattle.smap_pairs.specs.declared.pairs.Pair.{Pair}
use Rattle.smap_pairs.specs.Numbers.{numbers_after}
use Rattle.smap_pairs.specs.Pairs.{address_size, pair_numbers, pairs_from, pairs_of}

-- where a pair begins and ends, where its piece begins, and its line and its column
pair : (start end piece line column : ℕ) → Pair
pair start end piece line column = record { start = start; end = end; piece = piece; line = line; column = column }

-- each has its piece, which begins where the pair before ends
two : map pairs_of (codes "a@https://h/app.js:1:2 b@https://h/app.js:3:40" ∷ codes "x:1:2/app.js:1:6" ∷ codes "a:1:2-b:3:4:" ∷ [])
    ≡ (pair 18 22 0 1 2 ∷ pair 41 46 22 3 40 ∷ []) ∷ (pair 1 5 0 1 2 ∷ pair 12 16 5 1 6 ∷ []) ∷ (pair 1 5 0 1 2 ∷ pair 7 11 5 3 4 ∷ []) ∷ []
unfolding pair pairs_from pair_numbers address_size numbers_after
two = refl

-- of a chain the last two count
chains : map pairs_of (codes "?a=1:2:1:628" ∷ codes ":1:2:1:2:1:2" ∷ codes "12:34:56" ∷ [])
    ≡ (pair 6 12 0 1 628 ∷ []) ∷ (pair 8 12 0 1 2 ∷ []) ∷ (pair 2 8 0 34 56 ∷ []) ∷ []
unfolding pair pairs_from pair_numbers address_size numbers_after
chains = refl

-- ranges have none, nor what is no line or no column of a place
none : map pairs_of (codes "x.js:1:628-640" ∷ codes "app.js:01:2 app.js:1:02 app.js:0:1" ∷ codes ":5:" ∷ codes "a:1:2147483649" ∷ [])
    ≡ [] ∷ [] ∷ [] ∷ [] ∷ []
unfolding pair pairs_from pair_numbers address_size numbers_after
none = refl

-- the greatest numbers
most : map pairs_of (codes "a:2147483648:2147483648" ∷ codes "a:12345678901:1:2" ∷ [])
    ≡ (pair 1 23 0 2147483648 2147483648 ∷ []) ∷ (pair 13 17 0 1 2 ∷ []) ∷ []
unfolding pair pairs_from pair_numbers address_size numbers_after
most = refl

-- none stands in an address, but in other brackets one may
addresses : map pairs_of (codes "http://[fd00:1:2:3::5]:3000/app.js:1:2" ∷ codes "http://[::1:2]:1:2" ∷ codes "[:1:2]" ∷ codes "://[a b:1:2]" ∷ codes "://[a:1:2" ∷ [])
    ≡ (pair 34 38 0 1 2 ∷ []) ∷ (pair 14 18 0 1 2 ∷ []) ∷ (pair 1 5 0 1 2 ∷ []) ∷ (pair 7 11 0 1 2 ∷ []) ∷ (pair 5 9 0 1 2 ∷ []) ∷ []
unfolding pair pairs_from pair_numbers address_size numbers_after
addresses = refl

-- an address has at most 64 bytes
abbrev address : (more : List ℕ) → List ℕ
address more = codes "://[:1:2:aaaaaaaaaaaaaaaaaaaaaaaaaaaaaaaaaaaaaaaaaaaaaaaaaaaaaaaaa" ++ more ++ codes "]"

longest : map pairs_of (address (codes "::") ∷ address (codes ":::") ∷ []) ≡ [] ∷ (pair 4 8 0 1 2 ∷ []) ∷ []
unfolding pair pairs_from pair_numbers address_size numbers_after
longest = refl

numbers : map numbers_after (codes ":1:26x" ∷ codes ":01:2" ∷ codes ":1:2147483649" ∷ codes ":1" ∷ codes ":1:x" ∷ codes "1:1" ∷ [])
    ≡ Some (1, 26, 5) ∷ None ∷ None ∷ None ∷ None ∷ None ∷ []
unfolding numbers_after
numbers = refl
