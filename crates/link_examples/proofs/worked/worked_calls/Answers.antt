use Rattle.std.proofs.Common.{append_assoc}
use Rattle.link_examples.proofs.worked.worked_calls.Goals as goal

pub returns : goal.returns
returns c =
    let (a, of_a, as_sent_is) = c.in_ok-calls.ensures in
    let (b, of_b, altered_is) = c.in_ok-altered.ensures in
    let (d, of_d, heard_is) = c.in_ok-heard_across.ensures in
    let (e, of_e, given_up_is) = c.in_ok-given_up.ensures in
    record {
      a = a;
      b = b;
      c = d;
      d = e;
      of_a = of_a;
      of_b = of_b;
      of_c = of_d;
      of_d = of_e;
      are = simp (c.in_ok-append-4.ensures.items, c.in_ok-append-3.ensures.items, c.in_ok-append-2.ensures.items, c.in_ok-append.ensures.items, as_sent_is, altered_is, heard_is, given_up_is, c.in_ok-sent_across.ensures, append_assoc);
    }
