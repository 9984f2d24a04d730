-- What U is split to is known in one way: so that U may keep it. Assumes nothing.
use Rattle.std.specs.Float.{binary64}
use Rattle.std.specs.Coded.{→_prop}
use Rattle.abreast.specs.Unique.{halved_prop, under_prop}
use Rattle.book.specs.Gates.{−◌, entry}
use Rattle.book.specs.declared.Matrix.{Matrix}
use Rattle.splits.specs.Splits.{UWhole, USplit}
use Rattle.splits.specs.declared.Uppers.{Uppers}

u_whole_prop : (m : Matrix) (h : Uppers) → IsProp (UWhole m h)
u_whole_prop m h x y = λ i. record {
  p = halved_prop (entry m 0).re h.p x.p y.p i;
  q = halved_prop (entry m 1).re h.q x.q y.q i;
  u = halved_prop (entry m 2).re h.u x.u y.u i;
  v = halved_prop (entry m 2).im h.v x.v y.v i;
  w = halved_prop (− (entry m 2).im) h.w x.w y.w i;
  e = halved_prop (entry m 3).re h.e x.e y.e i;
  q_most = under_prop binary64 1 (entry m 1).re x.q_most y.q_most i;
  r_most = under_prop binary64 1 (entry m 1).im x.r_most y.r_most i;
  v_most = under_prop binary64 1 (entry m 2).im x.v_most y.v_most i;
  e_most = under_prop binary64 1 (entry m 3).re x.e_most y.e_most i;
  f_most = under_prop binary64 1 (entry m 3).im x.f_most y.f_most i;
}

pub u_split_prop : (m : Matrix) (h : Uppers) → IsProp (USplit m h)
u_split_prop m h = →_prop (u_whole_prop m h)
