-- What a function over a lent record promises.
pub mod Lent
