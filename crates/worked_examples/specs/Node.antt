-- A node's next value, computed: figure 4's sum node, and a netlist with stations.
use Rattle.std.specs.Prelude.{◌≡◌, refl, ◌+◌, pos, negsuc}
use Rattle.laws.specs.Below.{pick_below}
use Rattle.laws.specs.Signed.{signed}
use Rattle.kinds.specs.Kinds.{exact}
use Rattle.image.specs.Image.{nodes, channels, kind, wire, to, port, feeds}
use Rattle.worked_examples.specs.Netlist.{figure4, ring}
use Rattle.pearl.specs.Wrap.{wrap}
use Rattle.pearl.specs.Next.{next_value}
use Rattle.node.specs.Node.{port_value, next_of}

-- channel c brings 10 + c: the sum node has 10 and 11 on its ports and nothing on port 2; the first hold node has 12, and a count node nothing
ports :
    (port_value figure4 (λ c. pos (10 + c)) 2 0 ≡ pos 10) × (port_value figure4 (λ c. pos (10 + c)) 2 1 ≡ pos 11) ×
    (port_value figure4 (λ c. pos (10 + c)) 2 2 ≡ pos 0) × (port_value figure4 (λ c. pos (10 + c)) 3 0 ≡ pos 12) ×
    (port_value figure4 (λ c. pos (10 + c)) 0 0 ≡ pos 0)
unfolding pick_below nodes channels wire to port feeds port_value
ports = (refl, refl, refl, refl, refl)

-- with 10 and 11 on its ports figure 4's sum node makes 21, a count node counts on from 5, and the ring's negate node turns 10 into -10
nexts :
    (next_of figure4 (λ c. pos (10 + c)) 2 (pos 5) ≡ pos 21) × (next_of figure4 (λ c. pos (10 + c)) 0 (pos 5) ≡ pos 6) ×
    (next_of ring (λ c. pos (10 + c)) 1 (pos 5) ≡ negsuc 9)
unfolding pick_below nodes channels kind wire to port feeds port_value next_of wrap signed exact next_value
nexts = (refl, refl, refl)
