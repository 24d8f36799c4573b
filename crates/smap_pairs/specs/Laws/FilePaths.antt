-- The path of a file in a folder is UTF-8, and its bytes and its pieces are plain.
use Rattle.std.proofs.Common.{◌≡◌, ℕ, ◌==◌, ◌&&◌, ◌+◌, ◌<◌, zero, suc, Bool, true, false, List, [], ◌∷◌, ◌++◌, cond, length, ap, append_assoc, arith, get_or, refl, sym, ◌∙◌}
use Rattle.std.specs.List.{list_all, onto_first, slice_split}
use Rattle.std.specs.Cmp.{both_ways}
use Rattle.std.specs.Str.{is_utf8}
use Rattle.std.proofs.Math.Bool.{and-true, and_assoc}
use Rattle.std.proofs.Math.Seq.{drop-append-add, get_or-append_seam, take-append_seam}
use Rattle.std.proofs.lemmas.Bool.{and_from, and_parts, eqb-true}
use Rattle.std.proofs.lemmas.List.{append-nil, length-append}
use Rattle.std.proofs.lemmas.Str.{IsCharBoundary-after_ascii, IsCharBoundary-before_ascii, IsUtf8-append, IsUtf8-drop, IsUtf8-from_ascii, IsUtf8-from_is_utf8, IsUtf8-nil, IsUtf8-take, is_utf8-from_IsUtf8}
use Rattle.smap_pairs.specs.FilePaths.{IsByParts, is_file_name, is_plain_byte, is_plain_piece}

-- ---- characters

ascii_slash : (i : ℕ) → get_or (47 ∷ []) i 0 < 128
ascii_slash zero = omega arith
ascii_slash (suc i) = omega arith

-- what stands before a `/`, and what stands behind it
module _ (before path : List ℕ) where
  here : get_or (before ++ 47 ∷ path) (length before) 0 ≡ 47
  here = get_or-append_seam before 47 path 0

  within : length before < length (before ++ 47 ∷ path)
  within = omega (arith, length-append before (47 ∷ path))

  utf8_before : is_utf8 (before ++ 47 ∷ path) ≡ true → is_utf8 before ≡ true
  utf8_before all =
      ap is_utf8 (sym (take-append_seam before (47 ∷ path)))
      ∙ is_utf8-from_IsUtf8 _ (IsUtf8-take (before ++ 47 ∷ path) (length before) (IsUtf8-from_is_utf8 _ all)
      (IsCharBoundary-before_ascii (before ++ 47 ∷ path) (length before) within (omega (arith, here))))

  utf8_behind : is_utf8 (before ++ 47 ∷ path) ≡ true → is_utf8 path ≡ true
  utf8_behind all =
      ap is_utf8 (sym (drop-append-add before (47 ∷ path) 1))
      ∙ is_utf8-from_IsUtf8 _ (IsUtf8-drop (before ++ 47 ∷ path) (length before + 1) (IsUtf8-from_is_utf8 _ all)
      (IsCharBoundary-after_ascii (before ++ 47 ∷ path) (length before) (IsUtf8-from_is_utf8 _ all) within (omega (arith, here))))

  slash_utf8 : is_utf8 path ≡ true → is_utf8 (47 ∷ path) ≡ true
  slash_utf8 second =
      let ascii : (i : ℕ) → get_or (47 ∷ []) i 0 < 128 = λ i. ascii_slash i in
      is_utf8-from_IsUtf8 _ (IsUtf8-append (47 ∷ []) path (IsUtf8-from_ascii (47 ∷ []) ascii) (IsUtf8-from_is_utf8 _ second))

  utf8_with : (is_utf8 before && is_utf8 path) ≡ true → is_utf8 (before ++ 47 ∷ path) ≡ true
  utf8_with both =
      let parts = and_parts _ _ both in
      is_utf8-from_IsUtf8 _ (IsUtf8-append before (47 ∷ path) (IsUtf8-from_is_utf8 _ parts.0) (IsUtf8-from_is_utf8 _ (slash_utf8 parts.1)))

  pub utf8_parts : is_utf8 (before ++ 47 ∷ path) ≡ (is_utf8 before && is_utf8 path)
  utf8_parts = both_ways _ _ (λ all. and_from _ _ (utf8_before all) (utf8_behind all)) utf8_with

-- ---- pieces

-- with more bytes before the first
onto : List ℕ → List (List ℕ) → List (List ℕ)
onto before [] = before ∷ []
onto before (piece ∷ pieces) = (before ++ piece) ∷ pieces

onto_none : (pieces : List (List ℕ)) → list_all is_utf8 (onto [] pieces) ≡ list_all is_utf8 pieces
unfolding onto
onto_none [] = ap (λ b. b && true) (is_utf8-from_IsUtf8 [] IsUtf8-nil)
onto_none (piece ∷ pieces) = refl

onto_more : (before : List ℕ) (byte : ℕ) (pieces : List (List ℕ)) → onto (before ++ byte ∷ []) pieces ≡ onto before (onto_first byte pieces)
unfolding onto
onto_more before byte [] = refl
onto_more before byte (piece ∷ pieces) = ap (λ l. l ∷ pieces) (append_assoc before (byte ∷ []) piece)

utf8_pieces : (path before : List ℕ) → is_utf8 (before ++ path) ≡ list_all is_utf8 (onto before (slice_split (λ byte. byte == 47) path))
unfolding onto
utf8_pieces [] before = sym (and-true (is_utf8 (before ++ [])))
utf8_pieces (byte ∷ path) before = go (utf8_pieces path []) (utf8_pieces path (before ++ byte ∷ [])) (byte == 47) refl
  where
    go : is_utf8 path ≡ list_all is_utf8 (onto [] (slice_split (λ byte. byte == 47) path))
        → is_utf8 ((before ++ byte ∷ []) ++ path) ≡ list_all is_utf8 (onto (before ++ byte ∷ []) (slice_split (λ byte. byte == 47) path))
        → (slash : Bool) → (byte == 47) ≡ slash
        → is_utf8 (before ++ byte ∷ path)
        ≡ list_all is_utf8 (onto before (cond slash ([] ∷ slice_split (λ byte. byte == 47) path) (onto_first byte (slice_split (λ byte. byte == 47) path))))
    go rest more true is =
        ap (λ b. is_utf8 (before ++ b ∷ path)) (eqb-true byte 47 is) ∙ utf8_parts before path
        ∙ ap (λ b. is_utf8 before && b) (rest ∙ onto_none (slice_split (λ byte. byte == 47) path))
        ∙ ap (λ l. is_utf8 l && list_all is_utf8 (slice_split (λ byte. byte == 47) path)) (sym (append-nil before))
    go rest more false is =
        ap is_utf8 (sym (append_assoc before (byte ∷ []) path)) ∙ more ∙ ap (list_all is_utf8) (onto_more before byte (slice_split (λ byte. byte == 47) path))

-- ---- bytes

plain_first : (byte : ℕ) (pieces : List (List ℕ)) → (is_plain_byte byte && list_all (list_all is_plain_byte) pieces) ≡ list_all (list_all is_plain_byte) (onto_first byte pieces)
plain_first byte [] = sym (and-true (is_plain_byte byte && true))
plain_first byte (piece ∷ pieces) = sym (and_assoc (is_plain_byte byte) (list_all is_plain_byte piece) (list_all (list_all is_plain_byte) pieces))

plain_pieces : (path : List ℕ) → list_all is_plain_byte path ≡ list_all (list_all is_plain_byte) (slice_split (λ byte. byte == 47) path)
plain_pieces [] = refl
plain_pieces (byte ∷ path) = go (plain_pieces path) (byte == 47) refl
  where
    go : list_all is_plain_byte path ≡ list_all (list_all is_plain_byte) (slice_split (λ byte. byte == 47) path) → (slash : Bool) → (byte == 47) ≡ slash
        → (is_plain_byte byte && list_all is_plain_byte path)
        ≡ list_all (list_all is_plain_byte) (cond slash ([] ∷ slice_split (λ byte. byte == 47) path) (onto_first byte (slice_split (λ byte. byte == 47) path)))
    go rest true is = ap (λ b. is_plain_byte b && list_all is_plain_byte path) (eqb-true byte 47 is) ∙ rest
    go rest false is = ap (λ b. is_plain_byte byte && b) rest ∙ plain_first byte (slice_split (λ byte. byte == 47) path)

-- ---- names

three : (a b c all_a all_b all_c : Bool) → ((a && b && c) && (all_c && (all_b && all_a))) ≡ ((c && all_c) && ((b && all_b) && (a && all_a)))
three true true true x y z = refl
three true true false x y z = refl
three true false true x y true = refl
three true false true x y false = refl
three true false false x y z = refl
three false true true x true true = refl
three false true true x true false = refl
three false true true x false true = refl
three false true true x false false = refl
three false true false x y z = refl
three false false true x y true = refl
three false false true x y false = refl
three false false false x y z = refl

names : (pieces : List (List ℕ)) → list_all is_file_name pieces ≡ (list_all is_utf8 pieces && (list_all (list_all is_plain_byte) pieces && list_all is_plain_piece pieces))
names [] = refl
names (piece ∷ pieces) =
    ap (λ b. is_file_name piece && b) (names pieces)
    ∙ three (is_plain_piece piece) (list_all is_plain_byte piece) (is_utf8 piece) (list_all is_plain_piece pieces) (list_all (list_all is_plain_byte) pieces)
    (list_all is_utf8 pieces)

pub by_parts : IsByParts
by_parts path =
    names (slice_split (λ byte. byte == 47) path)
    ∙ (λ i. (sym (utf8_pieces path [] ∙ onto_none (slice_split (λ byte. byte == 47) path))) i
    && (sym (plain_pieces path) i && list_all is_plain_piece (slice_split (λ byte. byte == 47) path)))
