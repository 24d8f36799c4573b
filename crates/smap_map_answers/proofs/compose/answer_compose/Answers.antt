use Rattle.std.specs.Prelude.{option_copied}
use Rattle.std.proofs.Common.{inl, inr, refl}
use Rattle.std.proofs.lemmas.Result.{err_from_is_err_and}
use Rattle.smap_map_answers.proofs.ComposeLaws.{inner_refused, inner_unread, outer_refused}
use Rattle.smap_map_answers.proofs.compose.answer_compose.Goals as goal

pub returns-in_err-bytes-2 : goal.returns-in_err-bytes-2
returns-in_err-bytes-2 g c =
    let p = err_from_is_err_and c.from_residual-in_err-bytes-2.result c.from_residual-in_err-bytes-2.ensures.1 in
    rw (p.1, p.2) (inl (
      refl,
      inner_unread (g.F.FileReader.gives c.args.maps.now.files.now) c.args.outer.now c.args.inner.now (option_copied c.args.maps.now.base)
          c.in_ok-bytes.bytes.items _ c.in_ok-bytes.ensures.read c.in_err-bytes-2.ensures.unread,
    ))

pub returns-in_err-outer_map : goal.returns-in_err-outer_map
returns-in_err-outer_map g c =
    let p = err_from_is_err_and c.from_residual-in_err-outer_map.result c.from_residual-in_err-outer_map.ensures.1 in
    rw (p.1, p.2) (inl (
      refl,
      outer_refused (g.F.FileReader.gives c.args.maps.now.files.now) c.args.outer.now c.args.inner.now (option_copied c.args.maps.now.base)
          c.in_ok-bytes.bytes.items c.in_ok-bytes-2.bytes.items _ c.in_ok-bytes.ensures.read c.in_ok-bytes-2.ensures.read c.in_err-outer_map.ensures.refused,
    ))

pub returns-in_err-inner_map : goal.returns-in_err-inner_map
returns-in_err-inner_map g c =
    let p = err_from_is_err_and c.from_residual-in_err-inner_map.result c.from_residual-in_err-inner_map.ensures.1 in
    rw (p.1, p.2) (inl (
      refl,
      inner_refused (g.F.FileReader.gives c.args.maps.now.files.now) c.args.outer.now c.args.inner.now (option_copied c.args.maps.now.base)
          c.in_ok-bytes.bytes.items c.in_ok-bytes-2.bytes.items c.in_ok-outer_map.outer_map.stated _ c.in_ok-bytes.ensures.read
          c.in_ok-outer_map.ensures.read.0 c.in_ok-bytes-2.ensures.read c.in_err-inner_map.ensures.refused,
    ))

pub returns : goal.returns
returns g c = inr (
  option_copied c.as_deref.result,
  c.in_ok-outer_map.outer_map.stated,
  c.in_ok-inner_map.inner_map.stated,
  record {
    bytes = c.in_ok-bytes.bytes.items;
    reads = c.in_ok-bytes.ensures.read;
    states = c.in_ok-outer_map.ensures.read.0;
    has_id = cc (c.as_deref.ensures.value, c.in_ok-outer_map.ensures.id);
  },
  (c.in_ok-bytes-2.bytes.items, c.in_ok-bytes-2.ensures.read, c.in_ok-inner_map.ensures.read.0),
  c.in_ok-warn.ensures.warned,
  c.composed_two.ensures,
)
