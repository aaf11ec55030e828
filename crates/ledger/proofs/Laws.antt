-- Laws of the definitions: fractions, and the lag of an edge. In a name, `-is` says what a fraction is.
pub mod FractionValues
pub mod Lag
