-- `c_answers::put_footer` meets its contract: list after list. Assumes nothing.
use Prim.Native.Nat.{ℕ}
use lib.ListN.{replicate, length-replicate}
use Rattle.c_answers.specs.Places.{number_places, domain_places, footer_places}
use Rattle.answers.proofs.Written.{begun, more, whole}
use Rattle.c_answers.proofs.Storing.{numbers-long, domain-long}
use Rattle.c_answers.proofs.put_footer.Goals as goal

pub returns : goal.returns
unfolding footer_places
returns c =
    let f = c.args.f in
    let m = more (begun (replicate 730 0)) (number_places f) c.put_numbers.ensures (numbers-long f) in
    let m0 = more m (domain_places f.domain) c.put_domain.ensures (domain-long f.domain) in
    let m1 = more m0 f.file_sizes c.put_list.ensures.0 c.put_list.ensures.1 in
    let m2 = more m1 f.file_var_sizes c.put_list-2.ensures.0 c.put_list-2.ensures.1 in
    let m3 = more m2 f.file_validity_sizes c.put_list-3.ensures.0 c.put_list-3.ensures.1 in
    let m4 = more m3 f.tile_offsets c.put_list-4.ensures.0 c.put_list-4.ensures.1 in
    let m5 = more m4 f.var_offsets c.put_list-5.ensures.0 c.put_list-5.ensures.1 in
    let m6 = more m5 f.var_sizes c.put_list-6.ensures.0 c.put_list-6.ensures.1 in
    let m7 = more m6 f.validity c.put_list-7.ensures.0 c.put_list-7.ensures.1 in
    let m8 = more m7 f.mins c.put_list-8.ensures.0 c.put_list-8.ensures.1 in
    let m9 = more m8 f.maxes c.put_list-9.ensures.0 c.put_list-9.ensures.1 in
    let m10 = more m9 f.sums c.put_list-10.ensures.0 c.put_list-10.ensures.1 in
    let m11 = more m10 f.null_counts c.put_list-11.ensures.0 c.put_list-11.ensures.1 in
    whole m11 (length-replicate {A = ℕ} 730 0)
