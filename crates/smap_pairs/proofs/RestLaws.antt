-- What stands from a byte on before a pair, and where nothing fits any more.
use Rattle.std.proofs.Common.{◌≡◌, ◌==◌, ◌&&◌, ◌+◌, ◌-◌, ◌<◌, ◌≤◌, ℕ, true, false, not, List, ◌∷◌, None, ap, arith, drop, get_or, length, length-drop, subst, sym, take, ◌∙◌}
use Rattle.std.specs.List.{list_all, prefix_len}
use Rattle.std.proofs.lemmas.Bool.{and_from, and_left, and_right, lt-ltb, not_from_false, not_from_true}
use Rattle.std.proofs.lemmas.List.{drop-drop, drop_more, get_or-drop, get_or-map, length-map}
use Rattle.std.proofs.lemmas.List.Folds.{list_all_at}
use Rattle.std.proofs.lemmas.List.Sums.{prefix_len-le-length}
use Rattle.smap_pairs.specs.Behind.{fits, has_backslash, is_barred, is_behind_slash, without_query}
use Rattle.smap_pairs.specs.FilePaths.{is_file_name, is_file_path}
use Rattle.smap_pairs.specs.Brackets.{closed_by, closed_with, closed_with_any, has_paired_brackets, is_none_closed, is_some_none_closed}
use Rattle.smap_pairs.specs.Private.Rest.{IsEnd, IsPiece, IsRest, is_in_piece, piece_with, rest_fits}
use Rattle.smap_pairs.specs.Signs.{text_of}
use Rattle.smap_pairs.specs.declared.behind.Piece.{Piece}
use Rattle.smap_pairs.specs.declared.behind.Rest.{Rest}
use Rattle.smap_pairs.specs.declared.seen.SeenByte.{SeenByte}
use Rattle.smap_pairs.proofs.BehindLaws.{path_is, piece_more}
use Rattle.smap_pairs.proofs.BracketLaws.{closed_few, closed_never}

-- ---- where nothing fits any more

-- before a byte that is barred
pub end_barred : (before : List SeenByte) (at : ℕ) (d : SeenByte) → at < length before → is_barred (get_or before at d) ≡ true → IsEnd before (at + 1)
end_barred before at d within barred i below =
    let here : i + (at - i) ≡ at = omega (arith, below) in
    let free : list_all (λ seen. not (is_barred seen)) (drop i before) ≡ false =
    list_all_at (λ seen. not (is_barred seen)) (drop i before) (at - i) d (omega (arith, length-drop i before, within, below))
    (not_from_true _ (ap is_barred (get_or-drop i before (at - i) d ∙ ap (λ n. get_or before n d) here) ∙ barred)) in
    and_left _ _ (and_left _ _ free)

-- and before a bracket that is not closed
pub end_open : (before : List SeenByte) (at : ℕ) → closed_by (text_of (drop at before)) ≡ None → IsEnd before (at + 1)
end_open before at none i below =
    let here : i + (at - i) ≡ at = omega (arith, below) in
    let from : closed_by (text_of (drop (at - i) (drop i before))) ≡ None =
    ap (λ l. closed_by (text_of l)) (drop-drop (at - i) i before ∙ ap (λ n. drop n before) here) ∙ none in
    and_left _ _ (and_right _ _ (ap is_some_none_closed (closed_never (drop i before) (at - i) from)))

-- ---- a rest

module _ (before : List SeenByte) (self : Rest) (at : ℕ) (d : SeenByte) (is : IsRest before self) (next : at + 1 ≡ self.at) where
  pub rest_here : drop at before ≡ get_or before at d ∷ drop self.at before
  rest_here = drop_more before at d (omega (arith, is.within)) ∙ ap (λ n. get_or before at d ∷ drop n before) next

  -- its brackets, with the byte before it
  pub rest_closed : closed_by (text_of (drop at before)) ≡ closed_with (get_or before at d).byte self.closed
  rest_closed = ap (λ rest. closed_by (text_of rest)) rest_here ∙ ap (closed_with_any (get_or before at d).byte) is.closed

  rest_slash : ((get_or before at d).byte == 47) ≡ true → self.is_path ≡ is_file_path (without_query (text_of (drop self.at before)))
  rest_slash slash =
      let last : get_or (text_of before) (self.at - 1) 0 ≡ (get_or before at d).byte =
      ap (λ n. get_or (text_of before) n 0) (omega arith) ∙ get_or-map (λ seen. seen.byte) before at d 0 (omega (arith, is.within)) in
      let behind : is_behind_slash (text_of before) self.at ≡ true = and_from _ _ (lt-ltb 0 self.at (omega arith)) (ap (λ b. b == 47) last ∙ slash) in
      is.path ∙ ap (λ b. b && is_file_path (without_query (text_of (drop self.at before)))) behind

  -- its first piece
  pub rest_piece : IsPiece at (text_of (drop at before)) (piece_with at (get_or before at d).byte self.is_path self.piece)
  rest_piece =
      let P : List SeenByte → Type 0 = λ rest. IsPiece at (text_of rest) (piece_with at (get_or before at d).byte self.is_path self.piece) in
      let Q : ℕ → Type 0 = λ n. IsPiece n (text_of (drop self.at before)) self.piece in
      subst P (sym rest_here)
      (piece_more at (get_or before at d).byte (text_of (drop self.at before)) self.is_path self.piece (subst Q (sym next) is.piece) rest_slash)

  pub rest_free : is_barred (get_or before at d) ≡ false → list_all (λ seen. not (is_barred seen)) (drop at before) ≡ true
  rest_free free = ap (list_all (λ seen. not (is_barred seen))) rest_here ∙ and_from _ _ (not_from_false _ free) is.free

pub length_bytes : (before : List SeenByte) → length (text_of before) ≡ length before
length_bytes before = length-map before (λ seen. seen.byte)

-- it closes not more brackets than it has bytes
pub rest_few : (before : List SeenByte) (self : Rest) → IsRest before self
    → self.closed.round + self.closed.square + self.closed.curly + self.at ≤ length before
rest_few before self is = closed_few before self.at self.closed is.within is.closed

-- how long its first piece is at most
pub piece_within : (at : ℕ) (text : List ℕ) (piece : Piece) → IsPiece at (drop at text) piece → at ≤ length text → (at ≤ piece.end) × (piece.end ≤ length text)
piece_within at text piece is within =
    (omega (arith, is.ends), omega (arith, is.ends, prefix_len-le-length is_in_piece (drop at text), length-drop at text))

-- it is the path of a file
pub path_here : (at : ℕ) (text : List ℕ) (piece : Piece) → IsPiece at (drop at text) piece
    → (is_file_name (take (piece.end - at) (drop at text)) && piece.has_path) ≡ is_file_path (without_query (drop at text))
path_here at text piece is =
    let size : piece.end - at ≡ prefix_len is_in_piece (drop at text) = omega (arith, is.ends) in
    ap (λ n. is_file_name (take n (drop at text)) && piece.has_path) size
    ∙ ap (λ b. is_file_name (take (prefix_len is_in_piece (drop at text)) (drop at text)) && b) is.path ∙ sym (path_is (drop at text))

-- it fits behind a name
pub rest_fits_is : (before : List SeenByte) (rest : Rest) → IsRest before rest → rest_fits rest ≡ fits (drop rest.at before)
rest_fits_is before rest is =
    sym (ap (λ b. b && has_paired_brackets (text_of (drop rest.at before)) && not (has_backslash (without_query (text_of (drop rest.at before))))) is.free
    ∙ ap (λ o. is_some_none_closed o && not (has_backslash (without_query (text_of (drop rest.at before))))) is.closed
    ∙ ap (λ b. is_none_closed rest.closed && not b) (sym is.piece.backslash))
