-- What a step on a valid record promises.
pub mod Stepped
