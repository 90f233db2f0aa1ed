use Rattle.mono_search.proofs.inputs.Inputs.new.Goals as goal

pub returns : goal.returns
returns c =
    let v = c.vars-vars.ensures.vars in
    record {
      trail = rw v at c.in_ok-trail.ensures;
      sound = c.known.ensures.sound;
      store = c.in_ok-store.ensures;
      order = c.in_ok-order.ensures;
    }
