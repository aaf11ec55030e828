-- Why commands are given in place, and why the turns of the loop are the definition's ticks.
pub mod GivenInPlace
pub mod Turns
